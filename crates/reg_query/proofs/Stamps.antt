-- What the packed word of a stamp shows.
use Rattle.std.proofs.Common.{◌≡◌, ◌≢◌, ℕ, ◌+◌, ◌-◌, ◌*◌, ◌/◌, ◌%◌, ◌<◌, ◌≤◌, ◌==◌, ◌&&◌, ⊎_elim, Bool, true, false, cond, nat_lt, nat_le, Option, None, Some, refl, sym, ap, ◌∙◌, arith, lt-ltb, eq-eqb}
use Rattle.std.proofs.lemmas.Bool.{ne_eqb, le-ltb, le-leb, lt-leb, cases_lt}
use Rattle.reg_words.specs.declared.word.StampWord.{StampWord}
use Rattle.reg_words.specs.declared.word.StampWord.TheVariants.{Unborn, Live, Dead}
use Rattle.reg_words.specs.Packing.{stamp_word}
use Rattle.reg_rule.specs.Steps.{FitsBits}
use Rattle.reg_query.specs.declared.query.Query.{Query}
use Rattle.reg_query.specs.inner.Walks.{shown_id}

-- a number in three fields: of 25 bits, of 4, and the rest
record HasFields (word dead kind born : ℕ) : Type 0 where
  dead_is : word % 33554432 ≡ dead
  kind_is : word / 33554432 % 16 ≡ kind
  born_is : word / 536870912 ≡ born

fields_of : (word dead kind born : ℕ) → dead < 33554432 → kind < 16 → word ≡ dead + 33554432 * kind + 536870912 * born → HasFields word dead kind born
fields_of word dead kind born d k e = record { dead_is = omega arith; kind_is = omega arith; born_is = omega arith }

live_fields : (word kind id : ℕ) → FitsBits (Live kind id) → word ≡ stamp_word (Live kind id) → HasFields word 0 kind (id + 1)
unfolding stamp_word
live_fields word kind id f e = let k = f.0 in fields_of word 0 kind (id + 1) (omega arith) (omega arith) (omega arith)

dead_fields : (word kind id death : ℕ) → FitsBits (Dead kind id death) → word ≡ stamp_word (Dead kind id death) → HasFields word (death + 1) kind (id + 1)
unfolding stamp_word
dead_fields word kind id death f e = let k = f.0 in let d = f.2 in fields_of word (death + 1) kind (id + 1) (omega arith) (omega arith) (omega arith)

unborn_id : (word : ℕ) → word ≡ stamp_word Unborn → word / 536870912 ≡ 0
unfolding stamp_word
unborn_id word e = omega arith

test_false : (a b : Bool) (x : Option ℕ) → a ≡ false → None ≡ cond (a && b) x None
test_false a b x e = ap (λ (c : Bool). cond {A = Option ℕ} (c && b) x None) (sym e)

test_next : (a b : Bool) (x : Option ℕ) → b ≡ false → None ≡ cond (a && b) x None
test_next true b x e = ap (λ (c : Bool). cond {A = Option ℕ} c x None) (sym e)
test_next false b x e = refl

test_true : (a b : Bool) (x : Option ℕ) → a ≡ true → b ≡ true → x ≡ cond (a && b) x None
test_true a b x e f = ap (λ (c : Bool). cond {A = Option ℕ} (c && true) x None) (sym e) ∙ ap (λ (c : Bool). cond {A = Option ℕ} (a && c) x None) (sym f)

both : (a b : Bool) → a ≡ true → b ≡ true → (a && b) ≡ true
both a b e f = ap (λ c. c && b) e ∙ f

first_false : (a b : Bool) → a ≡ false → (a && b) ≡ false
first_false a b e = ap (λ c. c && b) e

next_false : (a b : Bool) → b ≡ false → (a && b) ≡ false
next_false true b e = e
next_false false b e = refl

module _ (q : Query) (stamp : ℕ) where
  pub other_kind : stamp / 33554432 % 16 ≢ q.unit.kind → (s : StampWord) → FitsBits s → stamp ≡ stamp_word s → None ≡ shown_id q s
  other_kind apart Unborn f e = refl
  other_kind apart (Live kind id) f e = let h = live_fields stamp kind id f e in test_false (kind == q.unit.kind) (nat_lt id q.ids) (Some id) (ne_eqb kind q.unit.kind (λ z. apart (h.kind_is ∙ z)))
  other_kind apart (Dead kind id death) f e = let h = dead_fields stamp kind id death f e in
      test_false ((kind == q.unit.kind) && nat_lt id q.ids) (nat_le q.places death) (Some id) (first_false (kind == q.unit.kind) (nat_lt id q.ids) (ne_eqb kind q.unit.kind (λ z. apart (h.kind_is ∙ z))))

  pub no_id : stamp / 536870912 ≡ 0 → (s : StampWord) → FitsBits s → stamp ≡ stamp_word s → None ≡ shown_id q s
  no_id none Unborn f e = refl
  no_id none (Live kind id) f e = let h = live_fields stamp kind id f e in let b = h.born_is in absurd (omega arith)
  no_id none (Dead kind id death) f e = let h = dead_fields stamp kind id death f e in let b = h.born_is in absurd (omega arith)

  pub late_id : q.ids < stamp / 536870912 → (s : StampWord) → FitsBits s → stamp ≡ stamp_word s → None ≡ shown_id q s
  late_id late Unborn f e = refl
  late_id late (Live kind id) f e = let h = live_fields stamp kind id f e in let b = h.born_is in test_next (kind == q.unit.kind) (nat_lt id q.ids) (Some id) (le-ltb id q.ids (omega arith))
  late_id late (Dead kind id death) f e = let h = dead_fields stamp kind id death f e in let b = h.born_is in
      test_false ((kind == q.unit.kind) && nat_lt id q.ids) (nat_le q.places death) (Some id) (next_false (kind == q.unit.kind) (nat_lt id q.ids) (le-ltb id q.ids (omega arith)))

  pub dead_before : 0 < stamp % 33554432 → stamp % 33554432 ≤ q.places → (s : StampWord) → FitsBits s → stamp ≡ stamp_word s → None ≡ shown_id q s
  dead_before some low Unborn f e = refl
  dead_before some low (Live kind id) f e = let h = live_fields stamp kind id f e in let b = h.dead_is in absurd (omega arith)
  dead_before some low (Dead kind id death) f e = let h = dead_fields stamp kind id death f e in let b = h.dead_is in
      test_next ((kind == q.unit.kind) && nat_lt id q.ids) (nat_le q.places death) (Some id) (lt-leb q.places death (omega arith))

  pub shows_id : stamp / 33554432 % 16 ≡ q.unit.kind → stamp / 536870912 ≢ 0 → stamp / 536870912 ≤ q.ids → ((0 < stamp % 33554432) × (stamp % 33554432 ≤ q.places) → ⊥)
      → (s : StampWord) → FitsBits s → stamp ≡ stamp_word s → Some (stamp / 536870912 - 1) ≡ shown_id q s
  shows_id kind_is some low alive Unborn f e = absurd (some (unborn_id stamp e))
  shows_id kind_is some low alive (Live kind id) f e = let h = live_fields stamp kind id f e in let b = h.born_is in
      ap Some (omega arith) ∙ test_true (kind == q.unit.kind) (nat_lt id q.ids) (Some id) (eq-eqb kind q.unit.kind (sym h.kind_is ∙ kind_is)) (lt-ltb id q.ids (omega arith))
  shows_id kind_is some low alive (Dead kind id death) f e = let h = dead_fields stamp kind id death f e in let b = h.born_is in let d = h.dead_is in
      ap Some (omega arith) ∙ test_true ((kind == q.unit.kind) && nat_lt id q.ids) (nat_le q.places death) (Some id)
      (both (kind == q.unit.kind) (nat_lt id q.ids) (eq-eqb kind q.unit.kind (sym h.kind_is ∙ kind_is)) (lt-ltb id q.ids (omega arith)))
      (le-leb q.places death (⊎_elim (λ (less : death < q.places). absurd (alive (omega arith, omega arith))) (λ (high : q.places ≤ death). high) (cases_lt death q.places)))
