-- What is decided at a look is the registry's reply at the point (kinds 3 and 7).
use Rattle.std.proofs.Common.{◌≡◌, ℕ, suc, ◌≤◌, ◌==◌, List, [], ◌∷◌, length, take, cond, Bool, true, false, is_some, Option, Some, None, sym, refl, ap, ◌∙◌, subst, tests}
use Rattle.reg_model.specs.Live.{live_at}
use Rattle.reg_model.specs.Replies.{Replies, shown}
use Rattle.reg_model.specs.declared.call.Call.{Call}
use Rattle.reg_model.specs.declared.call.Call.TheVariants as calls
use Rattle.reg_model.specs.declared.reply.Reply.{Reply}
use Rattle.reg_model.specs.declared.reply.Reply.TheVariants as replies
use Rattle.reg_model.specs.declared.reply.FullCause.TheVariants as causes
use Rattle.reg_model.specs.declared.update.Declared.{Declared}
use Rattle.reg_rule.specs.declared.view.Place.{Place}
use Rattle.reg_rule.specs.declared.view.View.{View}
use Rattle.reg_rule.specs.Log.{updates}
use Rattle.reg_rule.specs.Moves.{stamp_reply, code_reply, full_at, absent_of, shown_of, log_at}
use Rattle.reg_rule.proofs.Shows.{length_take}
use Rattle.reg_rule.proofs.Variants.{some_same, none_some}

same_of : (a b : ℕ) → (a == b) ≡ true → a ≡ b
same_of a b h = search (tests, h)

-- the test is decided where the reply is
pub some_if : {A : Type 0} (b : Bool) (x y : A) → cond b (Some x) None ≡ Some y → (b ≡ true) × (x ≡ y)
some_if true x y e = (refl, some_same x y e)
some_if false x y e = absurd (none_some y e)

pub log_length : (v : View) (k : ℕ) → k ≤ length v.log → length (log_at v k) ≡ k
log_length v k inside = lengths (take k v.log) ∙ length_take v.log k inside where
  lengths : (l : List Place) → length (updates l) ≡ length l
  lengths [] = refl
  lengths (x ∷ l) = ap suc (lengths l)

-- kind 7
pub stamp_answers : (v : View) (k : ℕ) (call : Call) (reply : Reply) → k ≤ length v.log → stamp_reply v k call ≡ Some reply → Replies v.key.sizes v.key.carried (log_at v k) call reply
stamp_answers v k (calls.Withdraw id) reply inside e = by_live (live_at v.key.carried (log_at v k) id) refl e where
  by_live : (o : Option Declared) → live_at v.key.carried (log_at v k) id ≡ o → full_at v k o id ≡ Some reply → Replies v.key.sizes v.key.carried (log_at v k) (calls.Withdraw id) reply
  by_live None is e = subst (λ (r : Reply). Replies v.key.sizes v.key.carried (log_at v k) (calls.Withdraw id) r) (some_same _ _ e) (refl, ap is_some is)
  by_live (Some d) is e = let t = some_if (k == v.key.sizes.log) (replies.Full causes.Log) reply e in
      subst (λ (r : Reply). Replies v.key.sizes v.key.carried (log_at v k) (calls.Withdraw id) r) t.1 (log_length v k inside ∙ same_of k v.key.sizes.log t.0, ap is_some is)
stamp_answers v k (calls.Show id) reply inside e = by_live (live_at v.key.carried (log_at v k) id) refl e where
  by_live : (o : Option Declared) → live_at v.key.carried (log_at v k) id ≡ o → absent_of o id ≡ Some reply → Replies v.key.sizes v.key.carried (log_at v k) (calls.Show id) reply
  by_live None is e = subst (λ (r : Reply). Replies v.key.sizes v.key.carried (log_at v k) (calls.Show id) r) (some_same _ _ e) (sym (ap (shown id) is))
  by_live (Some d) is e = absurd (none_some reply e)
stamp_answers v k (calls.Declare unit) reply inside e = absurd (none_some reply e)
stamp_answers v k (calls.Near unit radius) reply inside e = absurd (none_some reply e)
stamp_answers v k calls.Count reply inside e = absurd (none_some reply e)
stamp_answers v k (calls.After point) reply inside e = absurd (none_some reply e)

-- kind 3
pub code_answers : (v : View) (k : ℕ) (call : Call) (reply : Reply) → code_reply v k call ≡ Some reply → Replies v.key.sizes v.key.carried (log_at v k) call reply
code_answers v k (calls.Show id) reply e = by_live (live_at v.key.carried (log_at v k) id) refl e where
  by_live : (o : Option Declared) → live_at v.key.carried (log_at v k) id ≡ o → shown_of o ≡ Some reply → Replies v.key.sizes v.key.carried (log_at v k) (calls.Show id) reply
  by_live None is e = absurd (none_some reply e)
  by_live (Some d) is e = subst (λ (r : Reply). Replies v.key.sizes v.key.carried (log_at v k) (calls.Show id) r) (some_same _ _ e) (sym (ap (shown id) is))
code_answers v k (calls.Withdraw id) reply e = absurd (none_some reply e)
code_answers v k (calls.Declare unit) reply e = absurd (none_some reply e)
code_answers v k (calls.Near unit radius) reply e = absurd (none_some reply e)
code_answers v k calls.Count reply e = absurd (none_some reply e)
code_answers v k (calls.After point) reply e = absurd (none_some reply e)
