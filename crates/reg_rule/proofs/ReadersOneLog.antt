-- For readers: the words have one log, and what a seat has seen of it stays.
use Rattle.std.proofs.Common.{◌≡◌, ℕ, suc, ◌+◌, ◌<◌, ◌≤◌, leb, cond, ◌⊎◌, ⊎_elim, List, [], ◌∷◌, ◌++◌, length, take, drop, Bool, true, false, true≢false, sym, refl, ap, ◌∙◌, subst, append-nil, arith}
use Rattle.std.proofs.lemmas.List.{take-append-le, take-append-drop}
use Rattle.std.proofs.Math.Seq.{take-append_seam}
use Rattle.std.proofs.lemmas.Bool.Decides.{leb_tells}
use mathlib.Core.Logic.{dite}
use native.Mathlib.Decide.{ℕ_discrete}
use mathlib.Core.Option.{some}
use Rattle.reg_model.specs.declared.update.Update.{Update}
use Rattle.reg_model.specs.declared.update.Update.TheVariants.{Decl, Wd}
use Rattle.reg_words.specs.declared.word.LogWord.{LogWord}
use Rattle.reg_words.specs.declared.word.LogWord.TheVariants as records
use Rattle.reg_words.specs.Memory.{CODE, LOG}
use Rattle.reg_words.proofs.LogWords.{one_record}
use Rattle.reg_rule.specs.declared.told.Told.{Told}
use Rattle.reg_rule.specs.declared.view.Key.{Key}
use Rattle.reg_rule.specs.declared.view.Place.{Place}
use Rattle.reg_rule.specs.declared.view.View.{View}
use Rattle.reg_rule.specs.Log.{At, place_of, record_at}
use Rattle.reg_rule.specs.Conditions.{MayLoadLog}
use Rattle.reg_rule.specs.Steps.{LogLoaded, LogSwapped}
use Rattle.reg_rule.specs.ReadersLog.{IsLogOf, IsSeatOf}
use Rattle.reg_rule.specs.Seatings.{joined}
use Rattle.reg_rule.specs.ReadersSteps.{Lengthens}
use Rattle.reg_rule.specs.Readers.{WordsStand}
use Rattle.atomic_table.proofs.Lists.{at_longer}
use Rattle.reg_rule.proofs.Held.{there}
use Rattle.reg_rule.proofs.Shows.{at_inside}
use Rattle.reg_rule.proofs.ReadersLog.{front_is}

lists_same : {A : Type 0} (a b : List A) → length a ≡ length b → ((n : ℕ) (x y : A) → At a n x → At b n y → x ≡ y) → a ≡ b
lists_same [] [] len same = refl
lists_same [] (y ∷ b) len same = absurd (omega arith)
lists_same (x ∷ a) [] len same = absurd (omega arith)
lists_same (x ∷ a) (y ∷ b) len same = let h = same 0 x y refl refl in let t = lists_same a b (omega arith) (λ n p q e f. same (suc n) p q e f) in λ j. h j ∷ t j

abbrev kind_in : LogWord → ℕ
kind_in (records.Decl kind entry id) = kind
kind_in (records.Wd entry id) = 0

abbrev entry_in : LogWord → ℕ
entry_in (records.Decl kind entry id) = entry
entry_in (records.Wd entry id) = entry

abbrev id_in : LogWord → ℕ
id_in (records.Decl kind entry id) = id
id_in (records.Wd entry id) = id

abbrev is_decl : LogWord → Bool
is_decl (records.Decl kind entry id) = true
is_decl (records.Wd entry id) = false

module _ (key : Key) (m : ℕ → ℕ → ℕ) (a b : List Place) (of_a : IsLogOf key m a) (of_b : IsLogOf key m b) where
  long : length a ≡ length b
  long = sym (front_is key m a of_a) ∙ front_is key m b of_b

  same_place : (n : ℕ) (p q : Place) → At a n p → At b n q → p ≡ q
  same_place n p q x y = by_updates p.update q.update refl refl where
    e : record_at key.carried.base n p.update p.entry ≡ record_at key.carried.base n q.update q.entry
    e = let f = of_a.filled n p x in let g = of_b.filled n q y in one_record (record_at key.carried.base n p.update p.entry) (record_at key.carried.base n q.update q.entry) f.1 g.1 (sym f.0 ∙ g.0)

    by_updates : (s t : Update) → p.update ≡ s → q.update ≡ t → p ≡ q
    by_updates (Decl u) (Decl v) is also =
        let r : records.Decl u.kind p.entry (key.carried.base + n) ≡ records.Decl v.kind q.entry (key.carried.base + n) = sym (ap (λ (s : Update). record_at key.carried.base n s p.entry) is) ∙ (e ∙ ap (λ (s : Update). record_at key.carried.base n s q.entry) also) in
        let kind : u.kind ≡ v.kind = ap kind_in r in let entry : p.entry ≡ q.entry = ap entry_in r in
        let here : At a n (place_of (Decl u) p.entry) = x ∙ ap (λ (s : Update). some (place_of s p.entry)) is in let there : At b n (place_of (Decl v) q.entry) = y ∙ ap (λ (s : Update). some (place_of s q.entry)) also in
        let low = at_inside a n p x in let len = long in
        let body : u.body ≡ v.body = dite (ℕ_discrete (n + 1) (length a))
        (λ last. sym (of_a.coded n u p.entry last here) ∙ (ap (m CODE) entry ∙ of_b.coded n v q.entry (omega arith) there))
        (λ other. sym (of_a.noted n u p.entry (omega arith) here) ∙ of_b.noted n v q.entry (omega arith) there) in
        (λ j. place_of (is j) p.entry) ∙ ((λ j. place_of (Decl (record { kind = kind j; body = body j })) (entry j)) ∙ (λ j. place_of (sym also j) q.entry))
    by_updates (Wd i) (Wd k) is also =
        let r : records.Wd p.entry i ≡ records.Wd q.entry k = sym (ap (λ (s : Update). record_at key.carried.base n s p.entry) is) ∙ (e ∙ ap (λ (s : Update). record_at key.carried.base n s q.entry) also) in
        (λ j. place_of (is j) p.entry) ∙ ((λ j. place_of (Wd (ap id_in r j)) (ap entry_in r j)) ∙ (λ j. place_of (sym also j) q.entry))
    by_updates (Decl u) (Wd k) is also = absurd (true≢false (ap (λ (s : Update). is_decl (record_at key.carried.base n s p.entry)) (sym is) ∙ (ap is_decl e ∙ ap (λ (s : Update). is_decl (record_at key.carried.base n s q.entry)) also)))
    by_updates (Wd i) (Decl v) is also = absurd (true≢false (sym (ap (λ (s : Update). is_decl (record_at key.carried.base n s p.entry)) (sym is) ∙ (ap is_decl e ∙ ap (λ (s : Update). is_decl (record_at key.carried.base n s q.entry)) also))))

  pub one_log : a ≡ b
  one_log = lists_same a b long same_place

-- ---- steps

pub load_keeps : (told : Told) (place found : ℕ) (v w : View) → MayLoadLog told place v → LogLoaded told place v found w → (more : List Place) × (w.log ≡ v.log ++ more)
load_keeps told place found v w may tells = dite (ℕ_discrete place (length v.log))
    (λ next. dite (ℕ_discrete found 0)
    (λ none. ([], ap (λ (u : View). u.log) (tells.empty next none) ∙ sym (append-nil v.log)))
    (λ some_found. let t = tells.next next some_found in (t.0 ∷ [], ap (λ (u : View). u.log) t.2)))
    (λ other. let seen = may.seen in let t = tells.old (omega arith) in ([], ap (λ (u : View). u.log) t.3 ∙ sym (append-nil v.log)))

pub exchange_sees : (place found : ℕ) (p : Place) (v w : View) → LogSwapped place p v found w → (q : Place) × (w.log ≡ v.log ++ q ∷ [])
exchange_sees place found p v w tells = dite (ℕ_discrete found 0)
    (λ none. (p, ap (λ (u : View). u.log) (tells.won none)))
    (λ lost. let t = tells.lost lost in (t.0, ap (λ (u : View). u.log) t.2))

pub words_stay : (key : Key) (m later : ℕ → ℕ → ℕ) (views views_later : List View) (seat seat_later n : ℕ) (v w : View) → WordsStand key m views → WordsStand key later views_later
    → IsSeatOf views seat v → IsSeatOf views_later seat_later w → Lengthens v w → n < length v.log → m LOG n ≡ later LOG n
words_stay key m later views views_later seat seat_later n v w a b at at_later longer low =
    let p = there v.log n low in let q : At w.log n p.0 = subst (λ (l : List Place). At l n p.0) (sym longer.1) (at_longer v.log longer.0 n p.0 p.1) in
    let s = a.log_stands.seen seat v at in let t = b.log_stands.seen seat_later w at_later in
    (a.log_stands.held.filled n p.0 (subst (λ (l : List Place). At l n p.0) (sym s.1) (at_longer v.log s.0 n p.0 p.1))).0
    ∙ sym (b.log_stands.held.filled n p.0 (subst (λ (l : List Place). At l n p.0) (sym t.1) (at_longer w.log t.0 n p.0 q))).0

-- ---- joining

-- of two fronts of one log the longer begins with the other
front_of : (log a b ma mb : List Place) → log ≡ a ++ ma → log ≡ b ++ mb → length b ≤ length a → (more : List Place) × (a ≡ b ++ more)
front_of log a b ma mb of_a of_b le = let n = length b in let same : take n a ≡ b = sym (take-append-le n a ma le) ∙ (ap (take n) (sym of_a ∙ of_b) ∙ take-append_seam b mb) in
    (drop n a, sym (take-append-drop n a) ∙ ap (λ (l : List Place). l ++ drop n a) same)

longer_front : (log a b ma mb : List Place) (longer : Bool) → ((longer ≡ true) × (length b ≤ length a)) ⊎ ((longer ≡ false) × (length a < length b)) → log ≡ a ++ ma → log ≡ b ++ mb
    → ((more : List Place) × (cond longer a b ≡ a ++ more)) × ((more : List Place) × (cond longer a b ≡ b ++ more))
longer_front log a b ma mb true t of_a of_b = ⊎_elim (λ h. (([], sym (append-nil a)), front_of log a b ma mb of_a of_b h.1)) (λ h. absurd (cc)) t
longer_front log a b ma mb false t of_a of_b = ⊎_elim (λ h. absurd (cc)) (λ h. let le = h.1 in (front_of log b a mb ma of_b of_a (omega arith), ([], sym (append-nil b)))) t

pub join_keeps : (key : Key) (m : ℕ → ℕ → ℕ) (views : List View) (seat other : ℕ) (v w : View) → WordsStand key m views → IsSeatOf views seat v → IsSeatOf views other w → Lengthens v (joined v w) × Lengthens w (joined v w)
join_keeps key m views seat other v w a at there = let s = a.log_stands.seen seat v at in let t = a.log_stands.seen other w there in
    longer_front a.log v.log w.log s.0 t.0 (leb (length w.log) (length v.log)) (leb_tells (length w.log) (length v.log)) s.1 t.1
