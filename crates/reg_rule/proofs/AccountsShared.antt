-- The accounts of the rule, in a list by session, share the log.
use Rattle.std.proofs.Common.{◌≡◌, ℕ, zero, suc, ◌+◌, ◌<◌, ◌≤◌, Bool, true, cond, is_some, List, [], ◌∷◌, ◌++◌, map, length, count_by, get_or, Option, None, Some, refl, sym, ◌∙◌, ap, subst, arith, append-nil}
use Rattle.std.specs.Prelude.{slice_get, All, AllPairs, IfSome}
use Rattle.std.specs.List.{range_with_len}
use Rattle.std.specs.Option.{option_and_then}
use Rattle.std.proofs.lemmas.Grind.{flat_map-append}
use Rattle.std.proofs.lemmas.List.FromFn.{length-map-range_with_len, get_or-map-range_with_len, map-range_with_len_more}
use Rattle.std.proofs.lemmas.List.Elements.{All-append}
use Rattle.std.proofs.lemmas.List.Sums.{sum_by-append}
use Rattle.std.proofs.lemmas.Option.{slice_get_within, slice_get-get_or, same_Some}
use mathlib.Core.Option.{some}
use Rattle.reg_model.specs.declared.merging.Place.{Place as Spot}
use Rattle.reg_model.specs.declared.reply.Row.{Row}
use Rattle.reg_model.specs.Accounts.{claims, StandsInLog, ShareLog}
use Rattle.reg_model.specs.Merge.{row_at}
use Rattle.reg_model.specs.Rows.{all_rows, is_accepted, IsSeenBy}
use Rattle.reg_rule.specs.declared.view.Key.{Key}
use Rattle.reg_rule.specs.declared.view.Place.{Place}
use Rattle.reg_rule.specs.Log.{At, updates}
use Rattle.reg_rule.specs.inner.AccountParts.{AccountsPart, RowFits, total_below}
use Rattle.reg_rule.proofs.Held.{at_nth}

-- ---- lists

pub slice_at : {A : Type 0} (l : List A) (k : ℕ) (x : A) → At l k x → slice_get l k ≡ Some x
slice_at l k x at = let h = at_nth l k x x at in slice_get-get_or l k x h.0 ∙ ap Some h.1

pub at_slice : {A : Type 0} (l : List A) (k : ℕ) (x : A) → slice_get l k ≡ Some x → At l k x
at_slice [] k x e = absurd (cc (e))
at_slice (y ∷ l) zero x e = ap some (same_Some y x e)
at_slice (y ∷ l) (suc k) x e = at_slice l k x e

get_at : {A : Type 0} (l : List A) (k : ℕ) (d : A) → k < length l → At l k (get_or l k d)
get_at [] k d h = absurd (omega arith)
get_at (x ∷ l) zero d h = refl
get_at (x ∷ l) (suc k) d h = get_at l k d (omega arith)

if_some : {A : Type 0} (P : A → Type 0) (o : Option A) → ((x : A) → o ≡ Some x → P x) → IfSome o P
if_some P None h = tt
if_some P (Some x) h = h x refl

both_some : {X Y : Type 0} (o : Option X) (f : X → Option Y) (y : Y) → option_and_then f o ≡ Some y → (x : X) × (o ≡ Some x) × (f x ≡ Some y)
both_some None f y e = absurd (cc (e))
both_some (Some x) f y e = (x, refl, e)

-- ---- the list by session

abbrev pub by_session : ℕ → (ℕ → List Row) → List (List Row)
by_session callers accounts = map accounts (range_with_len 0 callers)

one_more : (n : ℕ) (f : ℕ → List Row) → by_session (suc n) f ≡ by_session n f ++ f n ∷ []
one_more n f = ap (λ k. by_session k f) (let next : suc n ≡ n + 1 = omega arith in next) ∙ map-range_with_len_more f 0 n n (omega arith)

session_at : (n : ℕ) (f : ℕ → List Row) (s : ℕ) (account : List Row) → slice_get (by_session n f) s ≡ Some account → (s < n) × (f s ≡ account)
session_at n f s account e =
    let many = length-map-range_with_len f 0 n in
    let low : s < n = omega (arith, slice_get_within (by_session n f) s account e) in
    (low, sym (get_or-map-range_with_len f 0 n s s account low (omega arith)) ∙ same_Some (get_or (by_session n f) s account) account (sym (slice_get-get_or (by_session n f) s account (omega arith)) ∙ e))

pub session_there : (n : ℕ) (f : ℕ → List Row) (s : ℕ) → s < n → slice_get (by_session n f) s ≡ Some (f s)
session_there n f s low =
    let many = length-map-range_with_len f 0 n in
    slice_get-get_or (by_session n f) s [] (omega arith) ∙ ap Some (get_or-map-range_with_len f 0 n s s [] low (omega arith))

rows_more : (n : ℕ) (f : ℕ → List Row) → all_rows (by_session (suc n) f) ≡ all_rows (by_session n f) ++ (f n ++ [])
rows_more n f = ap all_rows (one_more n f) ∙ flat_map-append (λ (account : List Row). account) (by_session n f) (f n ∷ [])

each_row : (P : Row → Type 0) (n : ℕ) (f : ℕ → List Row) → ((s i : ℕ) (row : Row) → s < n → At (f s) i row → P row) → All P (all_rows (by_session n f))
each_row P zero f h = λ k d low. absurd (omega (arith, low))
each_row P (suc n) f h = subst (All P) (sym (rows_more n f))
    (All-append P (all_rows (by_session n f)) (f n ++ []) (each_row P n f (λ s i row low at. h s i row (omega arith) at))
    (subst (All P) (sym (append-nil (f n))) (λ k d low. h n k (get_or (f n) k d) (omega arith) (get_at (f n) k d low))))

count_rows : (t : Row → Bool) (n : ℕ) (f : ℕ → List Row) → count_by t (all_rows (by_session n f)) ≡ total_below n (λ s. count_by t (f s))
count_rows t zero f = refl
count_rows t (suc n) f =
    let more : count_by t (all_rows (by_session n f) ++ (f n ++ [])) ≡ count_by t (all_rows (by_session n f)) + count_by t (f n ++ [])
    = sum_by-append (λ (row : Row). cond {A = ℕ} (t row) 1 0) (all_rows (by_session n f)) (f n ++ []) in
    let a = ap (count_by t) (rows_more n f) in let b = count_rows t n f in let c = ap (count_by t) (append-nil (f n)) in omega arith

pub length_updates : (l : List Place) → length (updates l) ≡ length l
length_updates [] = refl
length_updates (x ∷ l) = ap suc (length_updates l)

-- ---- the bridge

stands_of : (key : Key) (log : List Place) (s i : ℕ) (row : Row) → RowFits key log s i row → StandsInLog key.sizes key.carried (updates log) row
stands_of key log s i row f = record {
  place = f.answered.place;
  within = f.answered.within;
  point = f.answered.point;
  reply = f.answered.reply;
  made = λ update is. let point = f.answered.point in
      let accepted : is_accepted row ≡ true = ap is_some is in
      let one = ap (λ (b : Bool). cond {A = ℕ} b 1 0) accepted in
      slice_at (updates log) f.answered.place update (f.made f.answered.place update is (omega arith));
}

pub shares : (key : Key) (log : List Place) (accounts : ℕ → List Row) → length log ≤ key.sizes.log → AccountsPart key log accounts
    → ShareLog key.sizes key.carried (updates log) (by_session key.sizes.callers accounts)
shares key log accounts room part =
    let n : ℕ = key.sizes.callers in let list : List (List Row) = by_session n accounts in
    let fits : (spot : Spot) (row : Row) → row_at list spot ≡ Some row → RowFits key log spot.session spot.number row
    = λ spot row e. let b = both_some (slice_get list spot.session) (λ (rows : List Row). slice_get rows spot.number) row e in
    let h = session_at n accounts spot.session b.0 b.1 in
    part.fits spot.session spot.number row h.0 (at_slice (accounts spot.session) spot.number row (ap (λ (l : List Row). slice_get l spot.number) h.1 ∙ b.2)) in
    record {
      numbered = record {
        session = λ spot. if_some (λ row. row.session ≡ spot.session) (row_at list spot) (λ row e. (fits spot row e).session_is);
        number = λ spot. if_some (λ row. row.number ≡ spot.number) (row_at list spot) (λ row e. (fits spot row e).number_is);
      };
      few = omega (arith, length-map-range_with_len accounts 0 n);
      within = omega (arith, length_updates log);
      seen = λ k d low. let many = length-map-range_with_len accounts 0 n in
          subst (AllPairs IsSeenBy) (sym (get_or-map-range_with_len accounts 0 n k k d (omega arith) (omega arith))) (part.rising k (omega arith));
      stand = each_row (StandsInLog key.sizes key.carried (updates log)) n accounts (λ s i row low at. stands_of key log s i row (part.fits s i row low at));
      claimed = λ place low. count_rows (claims key.carried.base place) n accounts ∙ part.claimed place (omega (arith, length_updates log));
    }

pub by_session_same : (n : ℕ) (f g : ℕ → List Row) → ((s : ℕ) → s < n → f s ≡ g s) → by_session n f ≡ by_session n g
by_session_same zero f g same = refl
by_session_same (suc n) f g same = one_more n f ∙ ((λ i. by_session_same n f g (λ s low. same s (omega (arith, low))) i ++ same n (omega arith) i ∷ []) ∙ sym (one_more n g))
