-- What the tests show of places that another seat filled, and of helping.
use Rattle.std.proofs.Common.{◌≡◌, ℕ, zero, suc, ◌+◌, ◌<◌, inl, inr, [], ◌∷◌, refl, sym, ap, ◌∙◌, subst, arith}
use mathlib.Core.Option.{some-injective}
use Rattle.iscc_header.specs.declared.unit.Unit64.{Unit64}
use Rattle.reg_model.specs.declared.update.Update.{Update}
use Rattle.reg_model.specs.declared.update.Update.TheVariants.{Decl, Wd}
use Rattle.reg_words.specs.declared.word.LogWord.TheVariants as Decls
use Rattle.reg_words.specs.declared.word.StampWord.{StampWord}
use Rattle.reg_words.specs.declared.word.StampWord.TheVariants.{Unborn, Live, Dead}
use Rattle.reg_words.specs.Packing.{FitsStamp, log_word, stamp_word}
use Rattle.reg_words.proofs.StampWords.{one_stamp}
use Rattle.reg_rule.specs.declared.told.Told.TheVariants.{Nothing}
use Rattle.reg_rule.specs.declared.view.Place.{Place}
use Rattle.reg_rule.specs.declared.view.View.{View}
use Rattle.reg_rule.specs.Log.{At, place_of, place_word, IsKeptUpTo}
use Rattle.reg_rule.specs.Helping.{MayHelp}
use Rattle.reg_rule.specs.Moves.{with_step, fronted, passed, at_front, noted, looked}
use Rattle.reg_rule.specs.Conditions.{MaySwapLog, MaySwapBirth}
use Rattle.reg_rule.specs.Steps.{FitsBits, LogSwapped, CodeLoaded, StampLoaded}
use Rattle.reg_rule.specs.inner.Trials.{meta_place, written_hand, ready, late, met}

-- ---- stamps

pub fits_of : (s : StampWord) → FitsBits s → FitsStamp s
fits_of Unborn b = b
fits_of (Live kind id) b = (b.0, omega arith)
fits_of (Dead kind id d) b = (b.0, omega arith, omega arith)

pub found_birth : (entry id found : ℕ) (v w : View) → id < 4 → StampLoaded Nothing entry v found w → found ≡ stamp_word (Live 0 id) → w ≡ looked Nothing entry (Live 0 id) v
found_birth entry id found v w low told is =
    let fits : FitsStamp (Live 0 id) = (omega arith, omega arith) in
    let same = one_stamp told.stamp (Live 0 id) (fits_of told.stamp told.bits) fits (sym told.word ∙ is) in
    told.view.2 ∙ ap (λ (s : StampWord). looked Nothing entry s v) same

-- ---- helping

pub may_swap_birth : (v w : View) (place entry birth : ℕ) → v.key.carried.base ≡ 0 → entry < v.key.entries → MayHelp v place → At v.log place (meta_place 0 entry) → birth ≡ stamp_word (Live 0 place) → w ≡ noted v place → MaySwapBirth entry 0 birth w
may_swap_birth v w place entry birth base inside helps declares is stored =
    let id : place ≡ v.key.carried.base + place = omega arith in
    let may : MaySwapBirth entry 0 birth (noted v place) = record {
      inside = inside;
      unborn = refl;
      birth = (place, record { kind = 0; body = 0 }, helps, refl, declares, is ∙ ap (λ (n : ℕ). stamp_word (Live 0 n)) id);
    } in subst (MaySwapBirth entry 0 birth) (sym stored) may

-- ---- another's place

-- the word tells a declaration of the kind META in entry 0, but not its body
meta_first : (base : ℕ) (update : Update) (entry : ℕ) → place_word base 0 (place_of update entry) ≡ 1 → (body : ℕ) × (place_of update entry ≡ meta_place body 0)
unfolding log_word
meta_first base (Decl unit) entry e =
    let kind : unit.kind ≡ 0 = omega arith in let first : entry ≡ 0 = omega arith in
    (unit.body, λ x. place_of (Decl (record { kind = kind x; body = unit.body })) (first x))
meta_first base (Wd id) entry e = absurd (omega arith)

pub decl_not_wd : (unit : Unit64) (id : ℕ) → Decl unit ≡ Wd id → ⊥
decl_not_wd unit id e = absurd (cc)

pub may_be_late : (kind word : ℕ) (v : View) → kind ≡ 0 → word ≡ log_word (Decls.Decl 0 1 0) → v ≡ ready 2 1 → MaySwapLog 0 0 word (place_of (Decl (record { kind = kind; body = 0 })) 1) v
may_be_late kind word v meta is there =
    let may : MaySwapLog 0 0 word (meta_place 0 1) (ready 2 1) = record {
      pinned = omega arith;
      unopened = refl;
      next = refl;
      inside = omega arith;
      helped = refl;
      record_is = (written_hand 1 0 4, refl, refl, refl, refl, refl, omega arith);
      empty = refl;
      word = is;
    } in
    subst (MaySwapLog 0 0 word (place_of (Decl (record { kind = kind; body = 0 })) 1)) (sym there)
    (subst (λ (k : ℕ). MaySwapLog 0 0 word (place_of (Decl (record { kind = k; body = 0 })) 1) (ready 2 1)) (sym meta) may)

pub is_late : (v w : View) (p : Place) (found : ℕ) → v ≡ ready 2 1 → LogSwapped 0 p v found w → found ≡ 1 → (body : ℕ) × (w ≡ late body)
is_late v w p found there swapped one =
    let told : LogSwapped 0 p (ready 2 1) found w = subst (λ (z : View). LogSwapped 0 p z found w) there swapped in
    let lost = told.lost (λ e. absurd (omega arith)) in let q : Place = lost.0 in
    let word : place_word 0 0 q ≡ 1 = sym lost.1 ∙ one in
    let meta = meta_first 0 q.update q.entry word in
    (meta.0, lost.2 ∙ ap (passed (ready 2 1) 2) meta.1)

kept_first : (body : ℕ) → IsKeptUpTo (meta_place body 0 ∷ []) 1 0
kept_first body zero entry wd = absurd (decl_not_wd _ 0 (ap (λ (z : Place). z.update) (some-injective (meta_place body 0) (place_of (Wd 0) entry) wd)))
kept_first body (suc d) entry wd = omega arith

pub meets : (body : ℕ) (x w : View) (code : ℕ) → x ≡ at_front Nothing (with_step (late body) 1) 1 → CodeLoaded Nothing 0 x code w → code ≡ 0 → w ≡ met
meets body x w code front loaded nothing =
    let told : CodeLoaded Nothing 0 (at_front Nothing (with_step (late body) 1) 1) code w = subst (λ (z : View). CodeLoaded Nothing 0 z code w) front loaded in
    let read : code ≡ body = told.body 0 1 (record { kind = 0; body = body }) (inl refl) (inr (0, refl, refl)) (kept_first body) in
    told.view.2 ∙ ap (λ (b : ℕ). with_step (fronted (with_step (late b) 1) 1) 3) (sym read ∙ nothing)
