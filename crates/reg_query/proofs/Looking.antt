-- A look of a query at an entry.
use Rattle.std.proofs.Common.{◌≡◌, ℕ, ◌<◌, ◌≤◌, ◌==◌, ◌&&◌, inl, inr, Bool, true, false, cond, nat_lt, nat_le, List, [], ◌∷◌, ◌++◌, append_assoc, take, Option, None, Some, IfSome, IfNone, refl, sym, ap, ◌∙◌, subst, arith, lt-ltb, eq-eqb}
use Rattle.std.proofs.lemmas.Bool.{le-leb, eqb-true, ltb-true, leb-true, and_from, and_parts}
use Rattle.std.proofs.lemmas.List.Elements.{All-cons, All-nil}
use Rattle.iscc_header.specs.Bits.{distance}
use Rattle.iscc_header.specs.declared.unit.Unit64.{Unit64}
use Rattle.mih_plan.specs.declared.probe.Probe.{Probe}
use Rattle.reg_model.specs.declared.update.Declared.{Declared}
use Rattle.reg_model.specs.declared.reply.Hit.{Hit}
use Rattle.reg_model.specs.Replies.{is_near}
use Rattle.reg_words.specs.declared.word.StampWord.{StampWord}
use Rattle.reg_words.specs.declared.word.StampWord.TheVariants.{Unborn, Live, Dead}
use Rattle.reg_rule.specs.declared.told.Told.TheVariants.{Nothing}
use Rattle.reg_rule.specs.declared.view.Cursor.{Cursor}
use Rattle.reg_rule.specs.declared.view.Met.{Met}
use Rattle.reg_rule.specs.declared.view.View.{View}
use Rattle.reg_rule.specs.Log.{IsLiveIn}
use Rattle.reg_rule.specs.Conditions.{looks_of}
use Rattle.reg_rule.specs.Moves.{id_of, met_at, found_at, with_step}
use Rattle.reg_rule.specs.Steps.{LooksLive, Shows, StampLoaded, CodeLoaded}
use Rattle.reg_query.specs.declared.query.Query.{Query}
use Rattle.reg_query.specs.Queries.{IsWalking}
use Rattle.reg_query.specs.inner.Listing.{ListsBody, Lists, IsListing}
use Rattle.reg_query.specs.inner.Walks.{Lives, IsAskedAt, shown_id, cursor_at, met_by, Looked}
use Rattle.reg_query.proofs.Places.{declares_more, live_kept, declares_once, declared_below, length_take}

no_some : (x : ℕ) → None ≡ Some x → ⊥
no_some x e = absurd cc

from_some : Option ℕ → ℕ
from_some None = 0
from_some (Some x) = x

pub some_is : (x y : ℕ) → Some x ≡ Some y → x ≡ y
unfolding from_some
some_is x y e = ap from_some e

-- what a stamp shows, and back
pub shown_looks : (q : Query) (s : StampWord) (id kind : ℕ) → LooksLive q.places s id kind → kind ≡ q.unit.kind → id < q.ids → shown_id q s ≡ Some id
shown_looks q Unborn id kind looks same low = absurd looks
shown_looks q (Live found_kind found) id kind looks same low =
    ap (λ (b : Bool). cond {A = Option ℕ} b (Some found) None) (and_from (found_kind == q.unit.kind) (nat_lt found q.ids) (eq-eqb found_kind q.unit.kind (looks.1 ∙ same)) (lt-ltb found q.ids (let e = looks.0 in omega arith)))
    ∙ ap Some looks.0
shown_looks q (Dead found_kind found death) id kind looks same low =
    ap (λ (b : Bool). cond {A = Option ℕ} b (Some found) None)
    (and_from ((found_kind == q.unit.kind) && nat_lt found q.ids) (nat_le q.places death)
    (and_from (found_kind == q.unit.kind) (nat_lt found q.ids) (eq-eqb found_kind q.unit.kind (looks.1 ∙ same)) (lt-ltb found q.ids (let e = looks.0 in omega arith)))
    (le-leb q.places death looks.2))
    ∙ ap Some looks.0

cond_some : (b : Bool) (x y : ℕ) → cond {A = Option ℕ} b (Some x) None ≡ Some y → (b ≡ true) × (x ≡ y)
cond_some true x y e = (refl, some_is x y e)
cond_some false x y e = absurd (no_some y e)

pub shown_back : (q : Query) (s : StampWord) (id : ℕ) → shown_id q s ≡ Some id → LooksLive q.places s id q.unit.kind × (id < q.ids) × (id_of s ≡ Some id)
shown_back q Unborn id e = absurd (no_some id e)
shown_back q (Live kind found) id e =
    let h = cond_some ((kind == q.unit.kind) && nat_lt found q.ids) found id e in let t = and_parts (kind == q.unit.kind) (nat_lt found q.ids) h.0 in
    let low = ltb-true found q.ids t.1 in let same = h.1 in
    ((same, eqb-true kind q.unit.kind t.0), omega arith, ap Some same)
shown_back q (Dead kind found death) id e =
    let h = cond_some ((kind == q.unit.kind) && nat_lt found q.ids && nat_le q.places death) found id e in
    let a = and_parts ((kind == q.unit.kind) && nat_lt found q.ids) (nat_le q.places death) h.0 in let t = and_parts (kind == q.unit.kind) (nat_lt found q.ids) a.0 in
    let low = ltb-true found q.ids t.1 in let same = h.1 in
    ((same, eqb-true kind q.unit.kind t.0, leb-true q.places death a.1), omega arith, ap Some same)

looks_id : (k : ℕ) (s : StampWord) (a b i j : ℕ) → LooksLive k s a i → LooksLive k s b j → a ≡ b
looks_id k Unborn a b i j x y = absurd x
looks_id k (Live kind found) a b i j x y = sym x.0 ∙ y.0
looks_id k (Dead kind found death) a b i j x y = sym x.0 ∙ y.0

near_parts : (q : Query) (d : Declared) → is_near q.unit q.radius d ≡ true → (d.unit.kind ≡ q.unit.kind) × (distance q.unit.body d.unit.body ≤ q.radius)
near_parts q d e = let t = and_parts (d.unit.kind == q.unit.kind) (nat_le (distance q.unit.body d.unit.body) q.radius) e in (eqb-true d.unit.kind q.unit.kind t.0, leb-true (distance q.unit.body d.unit.body) q.radius t.1)

near_made : (q : Query) (d : Declared) → d.unit.kind ≡ q.unit.kind → distance q.unit.body d.unit.body ≤ q.radius → is_near q.unit q.radius d ≡ true
near_made q d same low = and_from (d.unit.kind == q.unit.kind) (nat_le (distance q.unit.body d.unit.body) q.radius) (eq-eqb d.unit.kind q.unit.kind same) (le-leb (distance q.unit.body d.unit.body) q.radius low)

look_paid : (id : Option ℕ) → 1 ≤ looks_of id
look_paid None = omega arith
look_paid (Some id) = omega arith

module _ (q : Query) (p : Probe) (entry found : ℕ) (v w : View) (asked : IsAskedAt q v) (at : v.cursor ≡ Some (cursor_at p entry)) (st : StampLoaded Nothing entry v found w) where
  shows : Shows v.key.carried (take q.places v.log) q.places entry st.stamp
  shows = st.shows q.places (inr asked.opens.snapshot) asked.opens.helped

  met_is : met_at v.cursor entry st.stamp v.met ≡ v.met ++ met_by p entry (id_of st.stamp) ∷ []
  met_is = ap (λ (c : Option Cursor). met_at c entry st.stamp v.met) at ∙ ap (λ (b : Bool). cond {A = List Met} b (v.met ++ met_by p entry (id_of st.stamp) ∷ []) v.met) (eq-eqb entry entry refl)

  abbrev stamped : View
  stamped = record v { met = v.met ++ met_by p entry (id_of st.stamp) ∷ []; found = found_at v.front entry st.stamp v; made = v.made ++ 7 ∷ [] }

  pub looked_view : w ≡ stamped
  looked_view = st.view.2 ∙ (λ j. record v { met = met_is j; found = found_at v.front entry st.stamp v; made = v.made ++ 7 ∷ [] })

  live_low : (d : Declared) → Lives v q.places d entry → d.id < q.ids
  live_low d live = let h = declared_below v.key.carried (take q.places v.log) d.id entry d.unit asked.opening live.declares in let l = length_take v.log q.places asked.opens.inside in let e = asked.ids in omega arith

  -- nothing is listed where nothing is shown
  pub none_shown : None ≡ shown_id q st.stamp → IsListing q (Lives v q.places) p entry None
  none_shown none d live lists = no_some d.id (none ∙ shown_looks q st.stamp d.id d.unit.kind (shows.live d.id d.unit live) (near_parts q d lists.near).0 (live_low d live))

  pub looked_none : None ≡ shown_id q st.stamp → Looked q p entry v None 1 w
  looked_none none = record {
    id = id_of st.stamp;
    few = look_paid (id_of st.stamp);
    found = found_at v.front entry st.stamp v;
    steps = 7 ∷ [];
    kinds = All-cons IsWalking 7 [] (inr (inl refl)) (All-nil IsWalking);
    looks_are = refl;
    heads_are = refl;
    view = looked_view;
    listing = none_shown none;
  }

  module _ (id body : ℕ) (x : View) (shown : Some id ≡ shown_id q st.stamp) (code : CodeLoaded Nothing entry w body x) where
    back : LooksLive q.places st.stamp id q.unit.kind × (id < q.ids) × (id_of st.stamp ≡ Some id)
    back = shown_back q st.stamp id (sym shown)

    there : (unit : Unit64) × IsLiveIn v.key.carried (take q.places v.log) id unit entry × (q.unit.kind ≡ unit.kind)
    there = shows.nothing_else id q.unit.kind back.0 (let l = back.1 in let e = asked.ids in omega arith)

    abbrev held : Declared
    held = record { id = id; unit = there.0 }

    body_is : body ≡ there.0.body
    body_is = (subst (λ (z : View). CodeLoaded Nothing entry z body x → body ≡ there.0.body) (sym looked_view) (λ (c : CodeLoaded Nothing entry stamped body x).
        c.body id q.places there.0 (inr asked.opens.snapshot) (declares_more v.key.carried v.log q.places id entry there.0 there.1.declares) (live_kept v.key.carried v.log q.places id entry there.0 asked.opens.inside there.1))) code

    alone : (other : Declared) → Lives v q.places other entry → other ≡ held
    alone other live =
        let same : other.id ≡ id = looks_id q.places st.stamp other.id id other.unit.kind q.unit.kind (shows.live other.id other.unit live) back.0 in
        let units = (declares_once v.key.carried (take q.places v.log) id entry entry other.unit there.0 asked.opening
        (subst (λ (i : ℕ). IsLiveIn v.key.carried (take q.places v.log) i other.unit entry) same live).declares there.1.declares).0 in
        λ j. record { id = same j; unit = units j }

    lists_it : (hit : Option Hit) → IfSome hit (λ h. (h ≡ record { id = id; body = body; distance = distance q.unit.body body }) × (h.distance ≤ q.radius) × ListsBody q p body)
        → IfNone hit (distance q.unit.body body ≤ q.radius → ListsBody q p body → ⊥) → IsListing q (Lives v q.places) p entry hit
    lists_it None some none = λ d live lists.
        let same = alone d live in let its = subst (λ (z : Declared). Lists q p z) same lists in
        none (subst (λ (b : ℕ). distance q.unit.body b ≤ q.radius) (sym body_is) (near_parts q held its.near).1) (subst (λ (b : ℕ). ListsBody q p b) (sym body_is) its.body)
    lists_it (Some h) some none = (
      held,
      there.1,
      record { near = near_made q held (sym there.2) (let a = some.1 in subst (λ (b : ℕ). distance q.unit.body b ≤ q.radius) body_is (subst (λ (z : Hit). z.distance ≤ q.radius) some.0 a)); body = subst (λ (b : ℕ). ListsBody q p b) body_is some.2 },
      some.0 ∙ (λ j. record { id = id; body = body_is j; distance = distance q.unit.body (body_is j) }),
      alone,
    )

    pub looked_some : (hit : Option Hit) → IfSome hit (λ h. (h ≡ record { id = id; body = body; distance = distance q.unit.body body }) × (h.distance ≤ q.radius) × ListsBody q p body)
        → IfNone hit (distance q.unit.body body ≤ q.radius → ListsBody q p body → ⊥) → Looked q p entry v hit 2 x
    looked_some hit some none = record {
      id = id_of st.stamp;
      few = subst (λ (o : Option ℕ). 2 ≤ looks_of o) (sym back.2) (omega arith);
      found = found_at v.front entry st.stamp v;
      steps = 7 ∷ 3 ∷ [];
      kinds = All-cons IsWalking 7 (3 ∷ []) (inr (inl refl)) (All-cons IsWalking 3 [] (inl refl) (All-nil IsWalking));
      looks_are = refl;
      heads_are = refl;
      view = code.view.2 ∙ (ap (λ (z : View). with_step z 3) looked_view
          ∙ (λ j. record v { met = v.met ++ met_by p entry (id_of st.stamp) ∷ []; found = found_at v.front entry st.stamp v; made = append_assoc v.made (7 ∷ []) (3 ∷ []) j }));
      listing = lists_it hit some none;
    }
