-- A look for an id: the load of the log, and the declaration below the snapshot.
use Rattle.std.proofs.Common.{◌≡◌, ℕ, ◌<◌, ◌≤◌, ◌==◌, ◌⊎◌, ⊎_elim, Bool, true, false, cond, nat_lt, List, [], ◌∷◌, ◌++◌, append-nil, length, length-append, take, Option, None, Some, option_map, refl, sym, ap, ◌∙◌, subst, arith}
use Rattle.std.proofs.lemmas.Bool.{cases_lt}
use native.Mathlib.Decide.{ℕ_discrete}
use mathlib.Core.Logic.{dite}
use Rattle.reg_model.specs.declared.call.Call.TheVariants.{Show}
use Rattle.reg_model.specs.declared.reply.Reply.TheVariants.{Absent}
use Rattle.reg_rule.specs.declared.told.Told.{Told}
use Rattle.reg_rule.specs.declared.told.Told.TheVariants.{Nothing, Row as RowOf}
use Rattle.reg_rule.specs.declared.view.Account.{Account}
use Rattle.reg_rule.specs.declared.view.Holding.{Holding}
use Rattle.reg_rule.specs.declared.view.Place.{Place}
use Rattle.reg_rule.specs.declared.view.View.{View}
use Rattle.reg_rule.specs.Log.{is_declared}
use Rattle.reg_rule.specs.Moves.{next_row, grown, front_reply, replied_accounts, point_or, marked_at, at_front, at_seen, at_seen_accounts, is_stop, refused, either}
use Rattle.reg_rule.specs.Steps.{LogLoaded}
use Rattle.reg_query.specs.inner.Showing.{Sought}
use Rattle.reg_query.proofs.Places.{take_append}

-- a row of showing the id, or none
abbrev pub Telling : ℕ → Told → Type 0
Telling id told = (told ≡ Nothing) ⊎ (told ≡ RowOf (Show id))

module _ (v : View) (k id : ℕ) (opens : v.snapshot ≡ Some k) where
  -- the log was loaded, and so many places are newly seen
  abbrev loaded : List Place → View
  loaded places = record v { log = v.log ++ places; made = v.made ++ 1 ∷ [] }

  abbrev sought_view : Told → List Place → Option ℕ → Option Holding → View
  sought_view told places front holding = record v { log = v.log ++ places; front = front; holding = holding; accounts = replied_accounts front_reply told v k; made = v.made ++ 1 ∷ [] }

  -- the rows by the places below the snapshot
  abbrev rows_of : List Place → List Account
  rows_of known = grown v.accounts (option_map (next_row v (Show id) k) (cond (is_declared v.key.carried known id) None (Some (Absent id))))

  abbrev Ends : List Place → Told → Type 0
  Ends places told = (n : ℕ) → at_front told (loaded places) n ≡ sought_view told places (cond (nat_lt 0 v.pin) (Some n) v.front) (marked_at v.holding n)

  abbrev Lasts : List Place → Told → Type 0
  Lasts places told = at_seen told (loaded places) v.snapshot ≡ sought_view told places v.front v.holding

  module _ (places : List Place) (known : take k (v.log ++ places) ≡ take k v.log) where
    ends_at : (told : Told) → Telling id told → Ends places told
    ends_at told tells = ⊎_elim
        (λ is. subst (Ends places) (sym is) (λ n. refl))
        (λ is. subst (Ends places) (sym is) (λ n.
        let rows = ap (λ (o : Option ℕ). replied_accounts front_reply (RowOf (Show id)) (loaded places) (point_or o n)) opens ∙ ap rows_of known in
        λ j. record v { log = v.log ++ places; front = cond (nat_lt 0 v.pin) (Some n) v.front; holding = marked_at v.holding n; accounts = rows j; made = v.made ++ 1 ∷ [] }))
        tells

    lasts : (told : Told) → Telling id told → Lasts places told
    lasts told tells =
        let none = ap (λ (o : Option ℕ). at_seen_accounts Nothing (loaded places) o) opens in
        let rows = ap (λ (o : Option ℕ). at_seen_accounts (RowOf (Show id)) (loaded places) o) opens ∙ ap rows_of known in ⊎_elim
        (λ is. subst (Lasts places) (sym is) (λ j. record v { log = v.log ++ places; accounts = none j; made = v.made ++ 1 ∷ [] }))
        (λ is. subst (Lasts places) (sym is) (λ j. record v { log = v.log ++ places; accounts = rows j; made = v.made ++ 1 ∷ [] }))
        tells

  module _ (told : Told) (tells : Telling id told) (w : View) where
    marked_none : (n : ℕ) → v.holding ≡ None → marked_at v.holding n ≡ None
    marked_none n none = ap (λ (h : Option Holding). marked_at h n) none

    sought_by : (places : List Place) (front : Option ℕ) (holding : Option Holding) → length places ≤ 1 → length (v.log ++ places) ≤ v.key.sizes.log → (v.key.sizes.callers ≡ 1 → places ≡ []) → w ≡ sought_view told places front holding → (v.holding ≡ None → holding ≡ None) → Sought told v k id w
    sought_by places front holding few room alone is none = record {
      places = places;
      few = few;
      room = room;
      alone = alone;
      view = is ∙ (λ j. sought_view told places (ap (λ (z : View). z.front) (sym is) j) (ap (λ (z : View). z.holding) (sym is) j));
      holding = λ e. ap (λ (z : View). z.holding) is ∙ none e;
    }

    -- a place that was loaded and has a record, newly seen or seen before
    by_test : (b : Bool) (places : List Place) (n : ℕ) → take k (v.log ++ places) ≡ take k v.log → length places ≤ 1 → length (v.log ++ places) ≤ v.key.sizes.log → (v.key.sizes.callers ≡ 1 → places ≡ []) → w ≡ either b (at_front told (loaded places) n) (at_seen told (loaded places) v.snapshot) → Sought told v k id w
    by_test true places n known few room alone is = sought_by places _ _ few room alone (is ∙ ends_at places known told tells n) (marked_none n)
    by_test false places n known few room alone is = sought_by places _ _ few room alone (is ∙ lasts places known told tells) (λ e. e)

    no_stop : (u x y : View) (p : Place) → either (is_stop told u p) x y ≡ y
    no_stop u x y p = ⊎_elim
        (λ is. subst (λ (t : Told). either (is_stop t u p) x y ≡ y) (sym is) refl)
        (λ is. subst (λ (t : Told). either (is_stop t u p) x y ≡ y) (sym is) refl)
        tells

    none_new : take k (v.log ++ []) ≡ take k v.log
    none_new = ap (take k) (append-nil v.log)

    pub sought_at : (place found : ℕ) → k ≤ length v.log → place ≤ length v.log → LogLoaded told place v found w → Sought told v k id w
    sought_at place found inside at l = ⊎_elim
        (λ (low : place < length v.log). let o = l.old low in
        by_test (length v.log == v.key.sizes.log) [] v.key.sizes.log none_new (omega arith) (let r = l.seen.room in let e = ap (λ (z : View). length z.log) o.3 in let a = length-append v.log [] in omega arith) (λ c. refl) (o.3 ∙ (λ j. either (length v.log == v.key.sizes.log) (at_front told (record v { log = sym (append-nil v.log) j; made = v.made ++ 1 ∷ [] }) v.key.sizes.log) (at_seen told (record v { log = sym (append-nil v.log) j; made = v.made ++ 1 ∷ [] }) v.snapshot))))
        (λ (high : length v.log ≤ place). let here : place ≡ length v.log = omega arith in dite (ℕ_discrete found 0)
        (λ none. by_test true [] place none_new (omega arith) (let r = l.seen.room in let e = ap (λ (z : View). length z.log) (l.empty here none) in let a = length-append v.log [] in omega arith) (λ c. refl) (l.empty here none ∙ (λ j. at_front told (record v { log = sym (append-nil v.log) j; made = v.made ++ 1 ∷ [] }) place)))
        (λ some. let p = l.next here some in
        by_test (length (v.log ++ p.0 ∷ []) == v.key.sizes.log) (p.0 ∷ []) v.key.sizes.log (take_append v.log (p.0 ∷ []) k inside) (omega arith) (let r = l.seen.room in let e = ap (λ (z : View). length z.log) p.2 in omega arith) (λ c. absurd (some (l.alone c here))) (p.2 ∙ no_stop v (refused told (loaded (p.0 ∷ [])) (length v.log))
        (either (length (v.log ++ p.0 ∷ []) == v.key.sizes.log) (at_front told (loaded (p.0 ∷ [])) v.key.sizes.log) (at_seen told (loaded (p.0 ∷ [])) v.snapshot)) p.0)))
        (cases_lt place (length v.log))
