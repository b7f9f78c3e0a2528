-- What is read off the last words of a round.
use Rattle.std.proofs.Common.{◌≡◌, ◌≢◌, ◌⊎◌, inl, inr, ℕ, zero, suc, ◌+◌, ◌<◌, ◌≤◌, List, [], ◌∷◌, ◌++◌, length, take, get_or, refl, sym, ◌∙◌, ap, ap₂, subst, arith}
use Rattle.std.specs.Prelude.{Option, None, Some, IfNone}
use mathlib.Core.Option.{some, some-injective}
use Rattle.iscc_header.specs.declared.unit.Unit64.{Unit64}
use Rattle.reg_model.specs.declared.update.Update.{Update}
use Rattle.reg_model.specs.declared.update.Update.TheVariants.{Decl, Wd}
use Rattle.reg_model.specs.Limits.{Limits}
use Rattle.reg_words.specs.declared.word.LogWord.{LogWord}
use Rattle.reg_words.specs.declared.word.LogWord.TheVariants as records
use Rattle.reg_words.specs.Packing.{FitsLog, log_word}
use Rattle.reg_words.specs.Memory.{CODE, LOG, NOTE, mem, size, start}
use Rattle.reg_words.proofs.LogWords.{no_record, one_record}
use Rattle.reg_words.proofs.Memory.{mem-read, mem-past}
use Rattle.reg_rule.specs.declared.view.Key.{Key}
use Rattle.reg_rule.specs.declared.view.Place.{Place}
use Rattle.reg_rule.specs.Log.{At, IsDecl, place_of, record_at, updates}
use Rattle.reg_rule.specs.ReadersLog.{IsLogOf, cells_of}
use Rattle.reg_rule.specs.inner.LastWords.{cells_in}
use Rattle.reg_rule.proofs.Held.{there}
use Rattle.reg_rule.proofs.Shows.{at_inside}

below_or : (k n : ℕ) → (k < n) ⊎ (n ≤ k)
below_or k zero = inr (omega arith)
below_or zero (suc n) = inl (omega arith)
below_or (suc k) (suc n) = step (below_or k n)
  where
    step : (k < n) ⊎ (n ≤ k) → (suc k < suc n) ⊎ (suc n ≤ suc k)
    step (inl a) = inl (omega arith)
    step (inr a) = inr (omega arith)

pub word_there : (words : List ℕ) (i word : ℕ) → At words i word → word ≡ get_or words i 0
word_there [] i word at = absurd (let inside = at_inside [] i word at in omega arith)
word_there (x ∷ words) zero word at = sym (some-injective x word at)
word_there (x ∷ words) (suc i) word at = word_there words i word at

-- a word of an area is the cell there
pub cell_is : (ns words : List ℕ) (a place first count result : ℕ) → first ≡ start ns a → count ≡ size ns a → (place < count → result ≡ get_or words (first + place) 0) → (count ≤ place → result ≡ 0) → result ≡ mem ns words a place
cell_is ns words a place first count result first_is count_is inside past = either (below_or place count)
  where
    either : (place < count) ⊎ (count ≤ place) → result ≡ mem ns words a place
    either (inl lt) = inside lt ∙ ap (λ n. get_or words (n + place) 0) first_is ∙ sym (mem-read ns words a place (subst (λ n. place < n) count_is lt))
    either (inr le) = past le ∙ sym (mem-past ns words a place (subst (λ n. n ≤ place) count_is le))

module _ (key : Key) (m : ℕ → ℕ → ℕ) (log : List Place) (is : IsLogOf key m log) (n : ℕ) where
  filled_there : n < length log → m LOG n ≢ 0
  filled_there lt zero_there =
      let p = there log n lt in
      no_record (record_at key.carried.base n p.0.update p.0.entry) (sym (is.filled n p.0 p.1).0 ∙ zero_there)

  -- a word that is no record is that of an empty place
  pub no_more : ((w : LogWord) → FitsLog w → log_word w ≢ m LOG n) → length log ≤ n
  no_more none = either (below_or n (length log))
    where
      either : (n < length log) ⊎ (length log ≤ n) → length log ≤ n
      either (inl lt) = let p = there log n lt in let f = is.filled n p.0 p.1 in absurd (none (record_at key.carried.base n p.0.update p.0.entry) f.1 (sym f.0))
      either (inr le) = le

  -- a word that is a record is that of a place
  record_there : (w : LogWord) → FitsLog w → log_word w ≡ m LOG n → (p : Place) × At log n p × (record_at key.carried.base n p.update p.entry ≡ w)
  record_there w fits word = either (below_or n (length log))
    where
      either : (n < length log) ⊎ (length log ≤ n) → (p : Place) × At log n p × (record_at key.carried.base n p.update p.entry ≡ w)
      either (inl lt) = let p = there log n lt in let f = is.filled n p.0 p.1 in (p.0, p.1, one_record (record_at key.carried.base n p.0.update p.0.entry) w f.1 fits (sym f.0 ∙ sym word))
      either (inr le) = absurd (no_record w (word ∙ is.empty n le))

  pub wd_there : (entry id : ℕ) → FitsLog (records.Wd entry id) → log_word (records.Wd entry id) ≡ m LOG n → (p : Place) × At log n p × (p.update ≡ Wd id)
  wd_there entry id fits word = let r = record_there (records.Wd entry id) fits word in (r.0, r.1, of_update r.0.update r.0.entry r.2)
    where
      of_update : (u : Update) (e : ℕ) → record_at key.carried.base n u e ≡ records.Wd entry id → u ≡ Wd id
      of_update (Decl unit) e same = cc
      of_update (Wd other) e same = cc

  pub decl_there : (kind entry id body : ℕ) → FitsLog (records.Decl kind entry id) → log_word (records.Decl kind entry id) ≡ m LOG n → ((unit : Unit64) → IsDecl log n unit entry → body ≡ unit.body)
      → (p : Place) × At log n p × (p.update ≡ Decl (record { kind = kind; body = body }))
  decl_there kind entry id body fits word body_is =
      let r = record_there (records.Decl kind entry id) fits word in
      (r.0, r.1, of_update r.0.update r.0.entry r.1 r.2)
    where
      of_update : (u : Update) (e : ℕ) → At log n (place_of u e) → record_at key.carried.base n u e ≡ records.Decl kind entry id → u ≡ Decl (record { kind = kind; body = body })
      of_update (Decl unit) e at same =
          let kind_is : unit.kind ≡ kind = cc in
          let entry_is : e ≡ entry = cc in
          let body_same : body ≡ unit.body = body_is unit (at ∙ ap (λ x. some (place_of (Decl unit) x)) entry_is) in
          λ j. Decl (record { kind = kind_is j; body = sym body_same j })
      of_update (Wd other) e at same = cc

  -- the body of a declaration, by whether the next place is empty
  pub body_last : (unit : Unit64) (entry : ℕ) → IsDecl log n unit entry → m LOG (n + 1) ≡ 0 → m CODE entry ≡ unit.body
  body_last unit entry decl next = either (below_or (n + 1) (length log))
    where
      either : (n + 1 < length log) ⊎ (length log ≤ n + 1) → m CODE entry ≡ unit.body
      either (inl lt) = let p = there log (n + 1) lt in absurd (no_record (record_at key.carried.base (n + 1) p.0.update p.0.entry) (sym (is.filled (n + 1) p.0 p.1).0 ∙ next))
      either (inr le) = let inside = at_inside log n (place_of (Decl unit) entry) decl in is.coded n unit entry (omega arith) decl

  pub body_noted : (unit : Unit64) (entry : ℕ) → IsDecl log n unit entry → m LOG (n + 1) ≢ 0 → m NOTE n ≡ unit.body
  body_noted unit entry decl next = either (below_or (n + 1) (length log))
    where
      either : (n + 1 < length log) ⊎ (length log ≤ n + 1) → m NOTE n ≡ unit.body
      either (inl lt) = is.noted n unit entry lt decl
      either (inr le) = absurd (next (is.empty (n + 1) le))

pub no_update : (o : Option Update) (log : List Place) (n : ℕ) → length log ≤ n → IfNone o (length log ≤ n)
no_update None log n le = le
no_update (Some update) log n le = tt

-- one update more was read
pub read_more : (log : List Place) (n : ℕ) (so_far next : List Update) (update : Update) → (p : Place) × At log n p × (p.update ≡ update) → so_far ≡ updates (take n log) → next ≡ so_far ++ update ∷ [] → next ≡ updates (take (n + 1) log)
read_more log n so_far next update there_is so_far_is next_is = next_is ∙ ap (λ us. us ++ update ∷ []) so_far_is ∙ taken log n update there_is ∙ (let e : suc n ≡ n + 1 = omega arith in ap (λ k. updates (take k log)) e)
  where
    taken : (log : List Place) (n : ℕ) (update : Update) → (p : Place) × At log n p × (p.update ≡ update) → updates (take n log) ++ update ∷ [] ≡ updates (take (suc n) log)
    taken [] n update h = absurd (let inside = at_inside [] n h.0 h.1 in omega arith)
    taken (p ∷ log) zero update h = ap (λ u. u ∷ []) (sym (ap (λ (x : Place). x.update) (some-injective p h.0 h.1) ∙ h.2))
    taken (p ∷ log) (suc n) update h = ap (λ us. p.update ∷ us) (taken log n update h)

-- all were read
pub read_all : (sizes : Limits) (words : List ℕ) (key : Key) (log : List Place) (n : ℕ) (all : List Update) → key.sizes ≡ sizes → key.entries ≡ sizes.entries
    → (IsLogOf key (cells_in sizes words) log → (n ≤ length log) × (all ≡ updates (take n log)) × (length log ≤ n)) → IsLogOf key (cells_of key words) log → all ≡ updates log
read_all sizes words key log n all sizes_are entries_are read is =
    let cells : cells_of key words ≡ cells_in sizes words = ap₂ (λ (s : Limits) (e : ℕ). cells_in (record s { entries = e }) words) sizes_are entries_are in
    let r = read (subst (λ m. IsLogOf key m log) cells is) in
    r.1 ∙ ap updates (whole log n r.2)
  where
    whole : (log : List Place) (n : ℕ) → length log ≤ n → take n log ≡ log
    whole [] zero le = refl
    whole [] (suc n) le = refl
    whole (p ∷ log) zero le = absurd (omega arith)
    whole (p ∷ log) (suc n) le = ap (λ ps. p ∷ ps) (whole log n (omega arith))
