-- What a look-up by id says of the live declarations, and the reply that tells it.
use Rattle.std.proofs.Common.{◌≡◌, ℕ, Bool, true, false, ◌&&◌, ◌==◌, List, find, Option, Some, None, refl, sym, ap, ap₂, arith}
use Rattle.std.specs.Prelude.{IfSome, IfNone, IsSome, IsTrue, is_some, ◌↔◌}
use Rattle.std.proofs.lemmas.Bool.{true≢false}
use Rattle.std.proofs.lemmas.Bool.Decides.{nat_tests}
use Rattle.iscc_header.specs.declared.unit.Unit64.{Unit64}
use Rattle.reg_model.specs.declared.update.Declared.{Declared}
use Rattle.reg_model.specs.declared.reply.Reply.{Reply}
use Rattle.reg_model.specs.declared.reply.Reply.TheVariants as replies
use Rattle.reg_model.specs.Replies.{shown}
use Rattle.reg_model.proofs.Rising.{has_id}
use Rattle.reg_model.proofs.LiveSteps.{declaration}

-- what a look-up by id says, where the live declarations are these
pub record LooksUp (list : List Declared) (id : ℕ) (o : Option Unit64) : Type 0 where
  pub found : IfSome o (λ (unit : Unit64). find (has_id id) list ≡ Some (declaration id unit))
  pub none : IfNone o (find (has_id id) list ≡ None)

pub looked_up : (list : List Declared) (id : ℕ) (o : Option Unit64) → LooksUp list id o → IsTrue (is_some o) ↔ IsSome (find (has_id id) list)
looked_up list id None h = rw h.none (λ t. t, λ t. t)
looked_up list id (Some unit) h = rw h.found (λ t. t, λ t. t)

-- the reply of a look-up
abbrev pub reply_of : ℕ → Option Unit64 → Reply
reply_of id None = replies.Absent id
reply_of id (Some unit) = replies.Live unit

pub shown_is : (list : List Declared) (id : ℕ) (o : Option Unit64) → LooksUp list id o → shown id (find (has_id id) list) ≡ reply_of id o
shown_is list id None h = rw h.none refl
shown_is list id (Some unit) h = rw h.found refl

abbrev unit_in : Unit64 → Reply → Unit64
unit_in unit (replies.Live told) = told
unit_in unit reply = unit

abbrev id_in : ℕ → Reply → ℕ
id_in id (replies.Absent told) = told
id_in id reply = id

abbrev unit_made : ℕ → ℕ → Unit64
unit_made kind body = record { kind = kind; body = body }

pub live_told : (told unit : Unit64) → IsTrue ((told.kind == unit.kind) && (told.body == unit.body)) ↔ (replies.Live told ≡ replies.Live unit)
live_told told unit = (
  λ same.
      let are : (told.kind ≡ unit.kind) × (told.body ≡ unit.body) = both (told.kind == unit.kind) (told.body == unit.body) (λ h. grind (arith, nat_tests, h)) (λ h. grind (arith, nat_tests, h)) same in
      ap₂ (λ kind body. replies.Live (unit_made kind body)) are.0 are.1,
  λ is. let same : told ≡ unit = ap (unit_in told) is in rw same (grind (arith, nat_tests)),
)
  where
    both : {A B : Type 0} (a b : Bool) → (a ≡ true → A) → (b ≡ true → B) → IsTrue (a && b) → A × B
    both true true f g h = (f refl, g refl)
    both true false f g h = absurd (true≢false (sym h))
    both false b f g h = absurd (true≢false (sym h))

pub absent_told : (told id : ℕ) → IsTrue (told == id) ↔ (replies.Absent told ≡ replies.Absent id)
absent_told told id = (λ same. ap (λ n. replies.Absent n) (grind (arith, nat_tests, same)), λ is. let same : told ≡ id = ap (id_in told) is in grind (arith, nat_tests, same))
