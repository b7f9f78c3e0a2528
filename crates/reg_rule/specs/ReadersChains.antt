-- For readers: chains, and which entries are linked.
use Rattle.std.specs.Prelude.{◌≡◌, ℕ, ◌+◌, ◌*◌, ◌^◌, ◌<◌, ◌⊎◌, ◌↔◌, true, false, List, Some}
use Rattle.iscc_header.specs.declared.unit.Unit64.{Unit64}
use Rattle.mih_plan.specs.Buckets.{bucket_of}
use Rattle.reg_words.specs.declared.word.SweepWord.{SweepWord}
use Rattle.reg_words.specs.Memory.{HEAD, NEXT}
use Rattle.reg_rule.specs.declared.view.Key.{Key}
use Rattle.reg_rule.specs.declared.view.Place.{Place}
use Rattle.reg_rule.specs.declared.view.Hand.{Hand}
use Rattle.reg_rule.specs.declared.view.Holding.{Holding}
use Rattle.reg_rule.specs.declared.view.View.{View}
use Rattle.reg_rule.specs.Log.{At, IsWd}
use Rattle.reg_rule.specs.Tables.{is_in}
use Rattle.reg_rule.specs.Chains.{Member, Once, LeadsThrough}
use Rattle.reg_rule.specs.ReadersLog.{IsSeatOf, HasDeclaration}

-- the head of a bucket in a table, and the next word of an entry there
abbrev pub head_link : Key → (ℕ → ℕ → ℕ) → ℕ → ℕ → ℕ
head_link key m table bucket = m HEAD (table * 2 ^ key.sizes.bits + bucket)

abbrev pub next_link : Key → (ℕ → ℕ → ℕ) → ℕ → ℕ → ℕ
next_link key m table entry = m NEXT (table * key.entries + entry)

-- A chain: what is met from the head of its bucket, no entry twice.
pub record IsChain (key : Key) (m : ℕ → ℕ → ℕ) (table bucket : ℕ) (chain : List ℕ) : Type 0 where
  pub met : LeadsThrough (next_link key m table) (head_link key m table bucket) chain
  pub once : Once chain

-- The entry of the withdrawal at this place was taken out of its chain in this table: it is in limbo, or the holder has unlinked it there.
abbrev pub IsCutAt : List View → SweepWord → ℕ → ℕ → Type 0
IsCutAt views word table d = ((word.limbo ≡ true) × (d ≡ word.place))
    ⊎ ((word.limbo ≡ false) × ((seat : ℕ) × (v : View) × (h : Holding) × IsSeatOf views seat v × (v.holding ≡ Some h) × (h.place ≡ d) × (is_in table h.cut ≡ true)))

-- it holds a declaration of this bucket, which was not taken out of this table
pub record LinksDeclaration (key : Key) (views : List View) (log : List Place) (word : SweepWord) (given table bucket entry : ℕ) : Type 0 where
  pub id : ℕ
  pub unit : Unit64
  pub has : HasDeclaration key log given entry id unit
  pub bucket_is : bucket_of unit.body table key.sizes.bits ≡ bucket
  pub uncut : (d : ℕ) → IsWd log d id entry → IsCutAt views word table d → ⊥

-- it is in a hand that says that it is linked in this table, with a code of this bucket
pub record LinksHand (key : Key) (views : List View) (table bucket entry : ℕ) : Type 0 where
  pub seat : ℕ
  pub view : View
  pub place : ℕ
  pub hand : Hand
  pub is_seat : IsSeatOf views seat view
  pub has : At view.hands place hand
  pub entry_is : hand.entry ≡ entry
  pub linked : is_in table hand.linked ≡ true
  pub code : ℕ
  pub code_is : hand.code ≡ Some code
  pub bucket_is : bucket_of code table key.sizes.bits ≡ bucket

-- *Chains.* At most one withdrawal is at work. Each bucket of each table has a chain, of exactly the entries that are linked there.
pub record ChainsStand (key : Key) (m : ℕ → ℕ → ℕ) (views : List View) (log : List Place) (word : SweepWord) (given : ℕ) : Type 0 where
  pub one_cut : (table other d e : ℕ) → IsCutAt views word table d → IsCutAt views word other e → d ≡ e
  pub chain : (table bucket : ℕ) → table < 4 → bucket < 2 ^ key.sizes.bits → (chain : List ℕ) × IsChain key m table bucket chain
      × ((entry : ℕ) → Member entry chain ↔ ((entry < key.entries) × (LinksDeclaration key views log word given table bucket entry ⊎ LinksHand key views table bucket entry)))
