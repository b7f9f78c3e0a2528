-- What the seat knows that holds the sweep, and what all seats know of its word.
use Rattle.std.specs.Prelude.{◌≡◌, ◌≢◌, ℕ, ◌+◌, ◌%◌, ◌<◌, ◌≤◌, ◌↔◌, Bool, true, false, is_some, List, [], ◌∷◌, ◌++◌, length, Option, None, Some}
use Rattle.iscc_header.specs.declared.unit.Unit64.{Unit64}
use Rattle.mih_plan.specs.Buckets.{bucket_of}
use Rattle.reg_words.specs.declared.word.StampWord.{StampWord}
use Rattle.reg_words.specs.declared.word.StampWord.TheVariants.{Dead}
use Rattle.reg_words.specs.declared.word.SweepWord.{SweepWord}
use Rattle.reg_rule.specs.declared.view.Key.{Key}
use Rattle.reg_rule.specs.declared.view.Place.{Place}
use Rattle.reg_rule.specs.declared.view.Link.{Link}
use Rattle.reg_rule.specs.declared.view.Way.{Way}
use Rattle.reg_rule.specs.declared.view.Holding.{Holding}
use Rattle.reg_rule.specs.declared.view.View.{View}
use Rattle.reg_rule.specs.Log.{IsWd, Declares, NoneWithdrawn}
use Rattle.reg_rule.specs.Tables.{is_in, are_all}
use Rattle.reg_rule.specs.Chains.{Member}
use Rattle.reg_rule.specs.inner.ChainParts.{after, next_in}
use Rattle.reg_rule.specs.SweepWords.{rank, let_go}

-- The word only rises, and two words of one rank are one.
pub record LastWordFits (word last : SweepWord) : Type 0 where
  pub free : last.held ≡ false
  pub rises : rank last ≤ rank word
  pub same : rank last ≡ rank word → last ≡ let_go word

abbrev pub LastWord : SweepWord → ℕ → View → Type 0
LastWord word id v = LastWordFits word v.last_word

-- Where the holder is.
pub record WordFits (log : List Place) (word known : SweepWord) (place : ℕ) : Type 0 where
  -- nobody else stores the word
  pub word_is : word ≡ known
  pub held : known.held ≡ true
  -- it has passed declarations alone since the word's place
  pub from : known.place ≤ place
  pub within : place ≤ length log
  pub between : known.limbo ≡ false → NoneWithdrawn log known.place place
  -- in limbo it is at the word's place
  pub limbo : known.limbo ≡ true → place ≡ known.place

abbrev pub AtWord : List Place → SweepWord → ℕ → View → Type 0
AtWord log word id v = (h : Holding) → v.holding ≡ Some h → WordFits log word h.word h.place

-- What the holder found free.
pub record ScansFit (floor freed : ℕ → ℕ) (place clear searched : ℕ) : Type 0 where
  -- the sessions found free of its place have their floors above it
  pub clear_of : (n : ℕ) → n < clear → place < floor n
  -- the sessions found free of the entry in limbo have no cursor there
  pub free_of : (n : ℕ) → n < searched → place < freed n

abbrev pub Scans : (ℕ → ℕ) → (ℕ → ℕ) → ℕ → View → Type 0
Scans floor freed id v = (h : Holding) → v.holding ≡ Some h → ScansFit floor freed h.place h.clear h.freed

-- What the holder has unlinked.
pub record CutsFit (begun returned seen : ℕ) (mark : Option ℕ) (limbo stamped : Bool) (place : ℕ) (tables : List ℕ) (marked : Option ℕ) : Type 0 where
  -- nothing, or of the withdrawal at its place alone
  pub uncut : limbo ≡ false → tables ≡ [] → returned ≡ begun
  pub cut : limbo ≡ false → tables ≢ [] → (begun ≡ place + 1) × (returned ≤ place) × (stamped ≡ true) × (place < seen)
  -- the mark is found after all the unlinking
  pub unmarked : limbo ≡ false → marked ≡ None → tables ≢ [] → mark ≡ None
  pub mark_is : (m : ℕ) → limbo ≡ false → marked ≡ Some m → (mark ≡ Some m) × (are_all tables ≡ true)

abbrev pub Cuts : ℕ → ℕ → Option ℕ → ℕ → View → Type 0
Cuts begun returned mark id v = (h : Holding) → v.holding ≡ Some h → CutsFit begun returned (length v.log) mark h.word.limbo h.stamped h.place h.cut h.marked

-- What the holder has put into the ring.
pub record GivesFit (key : Key) (gives : ℕ → ℕ) (seen : List Place) (returned put : ℕ) (limbo : Bool) (place : ℕ) (known : Option ℕ) (gave paid : Bool) : Type 0 where
  -- nobody else puts an entry
  pub put_is : (p : ℕ) → known ≡ Some p → put ≡ p
  -- the entry stands at the next ring place
  pub given : gave ≡ true → (p : ℕ) × (known ≡ Some p) × ((id entry : ℕ) → IsWd seen place id entry → gives (p % key.entries) ≡ entry)
  -- the entry in limbo was given back, or not
  pub back : paid ≡ true → (limbo ≡ true) × (returned ≡ place + 1)
  pub kept : paid ≡ false → limbo ≡ true → returned ≤ place

abbrev pub Gives : Key → (ℕ → ℕ) → ℕ → ℕ → ℕ → View → Type 0
Gives key gives returned put id v = (h : Holding) → v.holding ≡ Some h → GivesFit key gives v.log returned put h.word.limbo h.place h.put h.gave h.paid

-- The holder has done nothing yet at a place that it has not seen.
abbrev pub Idles : ℕ → View → Type 0
Idles id v = (h : Holding) → v.holding ≡ Some h → length v.log ≤ h.place → (h.stamped ≡ false) × (h.cut ≡ []) × (h.way ≡ None) × (h.behind ≡ None) × (h.gave ≡ false)

-- The seat that holds the sweep is the holder.
abbrev pub IsHolder : Option ℕ → ℕ → View → Type 0
IsHolder holder id v = (is_some v.holding ≡ true) ↔ (holder ≡ Some id)

-- What the holder knows of the entry that is withdrawn at its place, which is `entry`.
pub record VictimFits (key : Key) (nexts : ℕ → ℕ) (stamps : ℕ → StampWord) (chains : ℕ → ℕ → List ℕ) (linked : ℕ → ℕ → Bool) (returned : ℕ) (limbo stamped : Bool) (place : ℕ) (cut : List ℕ) (behind_of : Option Link) (on_way : Option Way) (id entry : ℕ) (unit : Unit64) : Type 0 where
  -- its withdrawal is stamped, and stays so until the entry is given back
  pub dead : stamped ≡ true → returned ≤ place → stamps entry ≡ Dead unit.kind id place
  -- it is linked in just the tables that were not cut
  pub tables : (table : ℕ) → table < 4 → limbo ≡ false → (linked table entry ≡ false) ↔ (is_in table cut ≡ true)
  -- its next word is the one that was loaded
  pub behind : (l : Link) → behind_of ≡ Some l → returned ≤ place → next_in key.entries nexts l.table entry ≡ l.word
  -- it lies ahead in its chain, behind these entries
  pub way : (w : Way) → on_way ≡ Some w →
      let chain = chains w.table (bucket_of unit.body w.table key.sizes.bits) in
      Member w.entry chain × ((rest : List ℕ) × (after w.entry chain ≡ w.ahead ++ entry ∷ rest))

abbrev pub Victims : Key → (ℕ → ℕ) → (ℕ → StampWord) → (ℕ → ℕ → List ℕ) → (ℕ → ℕ → Bool) → ℕ → ℕ → View → Type 0
Victims key nexts stamps chains linked returned id v = (h : Holding) (withdrawn entry : ℕ) (unit : Unit64) → v.holding ≡ Some h → IsWd v.log h.place withdrawn entry → Declares key.carried v.log withdrawn unit entry
    → VictimFits key nexts stamps chains linked returned h.word.limbo h.stamped h.place h.cut h.behind h.way withdrawn entry unit
