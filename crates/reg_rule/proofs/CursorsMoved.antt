-- Cursors and walks after a head or a next word is loaded (kinds 13 and 16), and after an entry is pushed (kind 15).
use Rattle.std.proofs.Common.{◌≡◌, ℕ, ◌^◌, ◌<◌, ◌≤◌, ◌⊎◌, inl, inr, ⊎_elim, List, [], ◌∷◌, ◌++◌, append_assoc, length, take, Bool, true, false, true≢false, Option, sym, refl, ap, ◌∙◌, subst, arith}
use mathlib.Core.Logic.{dite}
use native.Mathlib.Decide.{ℕ_discrete}
use Rattle.iscc_header.specs.declared.unit.Unit64.{Unit64}
use Rattle.mih_plan.specs.Buckets.{bucket_of}
use Rattle.reg_rule.specs.Links.{link_word}
use Rattle.reg_rule.specs.declared.view.Key.{Key}
use Rattle.reg_rule.specs.declared.view.Place.{Place}
use Rattle.reg_rule.specs.declared.view.Account.{Account}
use Rattle.reg_rule.specs.declared.view.Cursor.{Cursor}
use Rattle.reg_rule.specs.Log.{At, IsLiveIn}
use Rattle.reg_rule.specs.inner.World.{Use, holds, in_hand}
use Rattle.reg_rule.specs.inner.Sweeping.{IsReclaimed}
use Rattle.reg_rule.specs.inner.Entries.{UsesPart, CodesPart}
use Rattle.reg_rule.specs.Chains.{Member, Once, LeadsThrough}
use Rattle.reg_rule.specs.inner.ChainParts.{after, Names, next_in, head_cell, ChainsPart, LinksPart}
use Rattle.reg_rule.specs.inner.Walks.{from, CursorFits}
use Rattle.reg_rule.proofs.Shows.{declares_more, live_kept}
use Rattle.reg_rule.proofs.Held.{at_nth}
use Rattle.reg_rule.proofs.Chained.{member_left, member_right, next_names, from_next, from_link, from_more, avoids_of, test_same}
use Rattle.reg_rule.proofs.CursorsCut.{set_in, set_in_here, set_in_away}

-- the first of a chain
pub first_entry : (next : ℕ → ℕ) (w : ℕ) (l : List ℕ) → LeadsThrough next w l → Once l → (w ≡ 0 → ⊥) → (e : ℕ) × (w ≡ link_word e) × Member e l × (l ≡ e ∷ from (next e) l)
first_entry next w [] k o n = absurd (n k)
first_entry next w (e ∷ l) k o n = (e, k.0, inl refl, ap (λ (z : List ℕ). e ∷ z) (sym (from_next next w e (e ∷ l) k o (inl refl) ∙ test_same e e l (after e l) refl)))

module _ (key : Key) (nexts : ℕ → ℕ) (log : List Place) (chains : ℕ → ℕ → List ℕ) (linked : ℕ → ℕ → Bool) (begun returned : ℕ) (mark : Option ℕ) (freed : ℕ → ℕ)
    (heads codes : ℕ → ℕ) (part : ChainsPart key heads nexts codes chains linked) (pin : ℕ) (accounts : List Account) where
  abbrev Fits : List ℕ → Cursor → Type 0
  Fits visited c = CursorFits key nexts log chains linked begun returned mark freed pin accounts visited c

  -- kind 13: the first entry of a chain, and what lies behind it
  pub cursor_first : (table bucket : ℕ) → table < 4 → bucket < 2 ^ key.sizes.bits → (heads (head_cell key.sizes.bits table bucket) ≡ 0 → ⊥)
      → (e : ℕ) × (heads (head_cell key.sizes.bits table bucket) ≡ link_word e) × (e < key.entries) × Fits (e ∷ []) (record { table = table; bucket = bucket; entry = e })
      × ((entry : ℕ) → Member entry (chains table bucket) → Member entry (e ∷ []) ⊎ Member entry (from (next_in key.entries nexts table e) (chains table bucket)))
  cursor_first table bucket small wide some_entry =
      let leads = part.leads table bucket small wide in let once = part.once table bucket in
      let f = first_entry (next_in key.entries nexts table) (heads (head_cell key.sizes.bits table bucket)) (chains table bucket) leads once some_entry in (
        f.0,
        f.1,
        (part.inside table bucket f.0 f.2).0,
        record {
          table = small;
          bucket = wide;
          stands = inl f.2;
          once = subst Once f.3 once;
        },
        λ entry m. ⊎_elim (λ h. inl (inl h)) (λ h. inr h) (subst (λ (l : List ℕ). Member entry l) f.3 m),
      )

  -- kind 16: the next entry is one of the chain
  pub cursor_next : (visited : List ℕ) (c : Cursor) → Fits visited c → (next_in key.entries nexts c.table c.entry ≡ 0 → ⊥)
      → (e : ℕ) × (next_in key.entries nexts c.table c.entry ≡ link_word e) × (e < key.entries) × Fits (visited ++ e ∷ []) (record c { entry = e })
      × ((entry : ℕ) → Member entry visited ⊎ Member entry (from (next_in key.entries nexts c.table c.entry) (chains c.table c.bucket))
      → Member entry (visited ++ e ∷ []) ⊎ Member entry (from (next_in key.entries nexts c.table e) (chains c.table c.bucket)))
  cursor_next visited c f more =
      let leads = part.leads c.table c.bucket f.table f.bucket in let once = part.once c.table c.bucket in
      let names : Names (next_in key.entries nexts c.table c.entry) (chains c.table c.bucket) =
      ⊎_elim (λ m. next_names (next_in key.entries nexts c.table) (heads (head_cell key.sizes.bits c.table c.bucket)) c.entry (chains c.table c.bucket) leads m) (λ loose. loose.leads_back) f.stands in
      let named : (e : ℕ) × (next_in key.entries nexts c.table c.entry ≡ link_word e) × Member e (chains c.table c.bucket) = ⊎_elim (λ h. absurd (more h)) (λ t. t) names in
      let e : ℕ = named.0 in
      let ahead : from (next_in key.entries nexts c.table c.entry) (chains c.table c.bucket) ≡ e ∷ from (next_in key.entries nexts c.table e) (chains c.table c.bucket) =
      ap (λ (w : ℕ). from w (chains c.table c.bucket)) named.1 ∙ (from_link e (chains c.table c.bucket)
      ∙ ap (λ (z : List ℕ). e ∷ z) (sym (from_next (next_in key.entries nexts c.table) (heads (head_cell key.sizes.bits c.table c.bucket)) e (chains c.table c.bucket) leads once named.2))) in (
        e,
        named.1,
        (part.inside c.table c.bucket e named.2).0,
        record {
          table = f.table;
          bucket = f.bucket;
          stands = inl named.2;
          once = subst Once (sym (append_assoc visited (e ∷ []) (from (next_in key.entries nexts c.table e) (chains c.table c.bucket)))) (subst (λ (l : List ℕ). Once (visited ++ l)) ahead f.once);
        },
        λ entry met. ⊎_elim (λ h. inl (member_left entry visited (e ∷ []) h))
            (λ h. ⊎_elim (λ same. inl (member_right entry visited (e ∷ []) (inl same))) (λ later. inr later) (subst (λ (l : List ℕ). Member entry l) ahead h)) met,
      )

  -- what is live at a front on which the seat relies is in the chain of its bucket
  pub needed_linked : (logs : ℕ → ℕ) (uses : ℕ → Use) (table k id entry : ℕ) (unit : Unit64)
      → UsesPart key log returned uses → CodesPart key codes log uses → LinksPart key log begun uses linked → returned ≤ begun → begun ≤ k → k ≤ length log → length key.carried.list ≤ key.entries
      → ((n : ℕ) (p : Place) → At log n p → p.entry < key.entries)
      → table < 4 → IsLiveIn key.carried (take k log) id unit entry → Member entry (chains table (bucket_of unit.body table key.sizes.bits))
  needed_linked logs uses table k id entry unit use_part code_part link_part order low inside room entries small live =
      let dec = declares_more key.carried log k id entry unit live.declares in
      let kept = live_kept key.carried log k id entry unit inside live in
      let here : entry < key.entries = ⊎_elim (λ (c : At key.carried.list entry (record { id = id; unit = unit })). let h = at_nth key.carried.list entry (record { id = id; unit = unit }) (record { id = id; unit = unit }) c in let g = h.0 in omega arith)
      (λ t. entries t.0 _ t.2) dec in
      let held : uses entry ≡ holds id = use_part.held id entry unit dec (λ d e wd. let h = kept d e wd in omega arith) in
      let link : linked table entry ≡ true = link_part.held table id entry small here held (λ d e wd. let h = kept d e wd in omega arith) in
      subst (λ (b : ℕ). Member entry (chains table (bucket_of b table key.sizes.bits))) (code_part.bodies id entry unit held dec) (part.whole table entry small here link)

-- ---- kind 15

-- a new first entry changes nothing behind the others
pub from_pushed : (w e : ℕ) (l : List ℕ) → Names w l → (Member e l → ⊥) → from w (e ∷ l) ≡ from w l
from_pushed w e l n m = from_more w e l n (avoids_of e l m)

module _ (key : Key) (nexts : ℕ → ℕ) (log : List Place) (chains : ℕ → ℕ → List ℕ) (linked : ℕ → ℕ → Bool) (begun returned : ℕ) (mark : Option ℕ) (freed : ℕ → ℕ)
    (heads codes : ℕ → ℕ) (uses : ℕ → Use) (part : ChainsPart key heads nexts codes chains linked) (pin : ℕ) (accounts : List Account)
    (table bucket e seat i : ℕ) (is_hand : uses e ≡ in_hand seat i) (unlinked : linked table e ≡ false)
    -- what is being reclaimed holds its declaration
    (reclaimed : (d id x : ℕ) → IsReclaimed log begun returned d id x → uses x ≡ holds id) where
  abbrev chains' : ℕ → ℕ → List ℕ
  chains' = set_in chains table bucket (e ∷ chains table bucket)

  abbrev linked' : ℕ → ℕ → Bool
  linked' = set_in linked table e true

  not_there : (b : ℕ) → Member e (chains table b) → ⊥
  not_there b m = true≢false (sym (part.inside table b e m).1 ∙ unlinked)

  pushed_there : (c : Cursor) → c.table ≡ table → c.bucket ≡ bucket → chains' c.table c.bucket ≡ e ∷ chains c.table c.bucket
  pushed_there c p q = set_in_here chains table bucket c.table c.bucket (e ∷ chains table bucket) p q ∙ ap (λ (z : List ℕ). e ∷ z) (sym (ap (λ (k : ℕ). chains k c.bucket) p ∙ ap (chains table) q))

  pushed_else : (c : Cursor) → (c.table ≡ table → c.bucket ≡ bucket → ⊥) → chains' c.table c.bucket ≡ chains c.table c.bucket
  pushed_else c n = set_in_away chains table bucket c.table c.bucket (e ∷ chains table bucket) n

  abbrev Before : List ℕ → Cursor → Type 0
  Before visited c = CursorFits key nexts log chains linked begun returned mark freed pin accounts visited c

  abbrev After : List ℕ → Cursor → Type 0
  After visited c = CursorFits key nexts log chains' linked' begun returned mark freed pin accounts visited c

  names_of : (visited : List ℕ) (c : Cursor) → Before visited c → Names (next_in key.entries nexts c.table c.entry) (chains c.table c.bucket)
  names_of visited c f = ⊎_elim
      (λ m. next_names (next_in key.entries nexts c.table) (heads (head_cell key.sizes.bits c.table c.bucket)) c.entry (chains c.table c.bucket) (part.leads c.table c.bucket f.table f.bucket) m)
      (λ loose. loose.leads_back) f.stands

  -- a walk meets what it would have met
  pub walk_pushed : (visited : List ℕ) (c : Cursor) → Before visited c
      → from (next_in key.entries nexts c.table c.entry) (chains' c.table c.bucket) ≡ from (next_in key.entries nexts c.table c.entry) (chains c.table c.bucket)
  walk_pushed visited c f = dite (ℕ_discrete c.table table)
      (λ p. dite (ℕ_discrete c.bucket bucket)
      (λ q. ap (λ (l : List ℕ). from (next_in key.entries nexts c.table c.entry) l) (pushed_there c p q)
      ∙ from_pushed (next_in key.entries nexts c.table c.entry) e (chains c.table c.bucket) (names_of visited c f)
      (λ m. not_there c.bucket (subst (λ (t : ℕ). Member e (chains t c.bucket)) p m)))
      (λ n. ap (λ (l : List ℕ). from (next_in key.entries nexts c.table c.entry) l) (pushed_else c (λ x y. n y))))
      (λ n. ap (λ (l : List ℕ). from (next_in key.entries nexts c.table c.entry) l) (pushed_else c (λ x y. n x)))

  member_pushed : (c : Cursor) (x : ℕ) → Member x (chains c.table c.bucket) → Member x (chains' c.table c.bucket)
  member_pushed c x m = dite (ℕ_discrete c.table table)
      (λ p. dite (ℕ_discrete c.bucket bucket)
      (λ q. subst (λ (l : List ℕ). Member x l) (sym (pushed_there c p q)) (inr m))
      (λ n. subst (λ (l : List ℕ). Member x l) (sym (pushed_else c (λ u y. n y))) m))
      (λ n. subst (λ (l : List ℕ). Member x l) (sym (pushed_else c (λ u y. n u))) m)

  pub cursor_pushed : (visited : List ℕ) (c : Cursor) → Before visited c → After visited c
  cursor_pushed visited c f = record {
    table = f.table;
    bucket = f.bucket;
    stands = ⊎_elim (λ m. inl (member_pushed c c.entry m))
        (λ loose. let r = loose.reclaimed in let held = reclaimed r.0 r.1 c.entry r.2 in inr (record {
          reclaimed = loose.reclaimed;
          bucket = loose.bucket;
          cut = set_in_away linked table e c.table c.entry true (λ p q. hand_holds r.1 (sym is_hand ∙ (ap uses (sym q) ∙ held))) ∙ loose.cut;
          leads_back = ⊎_elim (λ h. inl h) (λ (t : (x : ℕ) × (next_in key.entries nexts c.table c.entry ≡ link_word x) × Member x (chains c.table c.bucket)). inr (t.0, t.1, member_pushed c t.0 t.2)) loose.leads_back;
          pinned = loose.pinned;
          unscanned = loose.unscanned;
        })) f.stands;
    once = subst (λ (l : List ℕ). Once (visited ++ l)) (sym (walk_pushed visited c f)) f.once;
  } where
    hand_holds : (id : ℕ) → in_hand seat i ≡ holds id → ⊥
    hand_holds id z = cc
