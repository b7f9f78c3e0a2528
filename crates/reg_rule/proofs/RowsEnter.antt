-- A row that takes no place enters the account of the seat that makes the step.
use Rattle.std.proofs.Common.{◌≡◌, ◌≢◌, ℕ, zero, suc, ◌+◌, ◌<◌, ◌≤◌, ◌==◌, ◌&&◌, Bool, true, false, ◌⊎◌, inl, inr, ⊎_elim, List, [], ◌∷◌, ◌++◌, length, count_by, cond, is_some, AllPairs, get_or, set, Option, None, Some, sym, ap, ◌∙◌, refl, subst, arith}
use Rattle.std.proofs.lemmas.List.Sums.{sum_by-append}
use Rattle.std.proofs.lemmas.List.Quantifiers.{all_pairs_push}
use mathlib.Core.Logic.{dite}
use native.Mathlib.Decide.{ℕ_discrete}
use mathlib.Core.Option.{some, some-injective, some-ne-none}
use lib.ListN.{get_elem?}
use Rattle.reg_model.specs.declared.reply.Row.{Row}
use Rattle.reg_rule.specs.inner.AccountParts.{IsAnswered}
use Rattle.reg_model.specs.Rows.{is_accepted, update_of, IsSeenBy}
use Rattle.reg_words.specs.Memory.{TAKE, PUT, PIN, set_at}
use Rattle.reg_words.proofs.Memory.{set_at-here, set_at-else}
use Rattle.reg_rule.specs.declared.view.Key.{Key}
use Rattle.reg_rule.specs.declared.view.Place.{Place}
use Rattle.reg_rule.specs.declared.view.Account.{Account}
use Rattle.reg_rule.specs.declared.view.View.{View}
use Rattle.reg_rule.specs.Log.{At, updates}
use Rattle.reg_rule.specs.inner.World.{World}
use Rattle.reg_rule.specs.inner.SeatParts.{Owned}
use Rattle.reg_rule.specs.inner.Entries.{CountsPart}
use Rattle.reg_model.specs.Accounts.{claims}
use Rattle.reg_rule.specs.inner.AccountParts.{AccountsPart, RowFits}
use Rattle.reg_rule.specs.inner.Rule.{Inv}
use Rattle.reg_rule.specs.Moves.{head_number, head_rows, grown}
use Rattle.reg_rule.proofs.Views.{each_moves}
use Rattle.reg_rule.proofs.Counted.{total_set, set_is_seat, set_in_hands}
use Rattle.reg_rule.proofs.AccountsKept.{total_same}
use Rattle.reg_rule.proofs.Passed.{at_new}
use Rattle.reg_rule.proofs.Fits.{Shared, Fits, shared_of, fits_of, inv_of}
use Rattle.reg_rule.proofs.FloorsKept.{grown_first}

-- the accounts of all sessions, with a row more in that of one
abbrev pub with_row : (ℕ → List Row) → ℕ → Row → ℕ → List Row
with_row accounts n row = set_at accounts n (accounts n ++ row ∷ [])

pub has_head : (l : List Account) → 0 < length l → (a : Account) × At l 0 a × (head_number l ≡ a.number) × (head_rows l ≡ a.rows)
has_head [] h = absurd (omega arith)
has_head (a ∷ others) h = (a, refl, refl, refl)

pub length_grown : (l : List Account) (x : Option Row) → length (grown l x) ≡ length l
length_grown l None = refl
length_grown [] (Some row) = refl
length_grown (a ∷ others) (Some row) = refl

abbrev Was : List Account → Row → ℕ → Account → Type 0
Was l row i b = (c : Account) × At l i c × (b.number ≡ c.number) × (((i ≡ 0) × (b.rows ≡ c.rows ++ row ∷ [])) ⊎ ((i ≢ 0) × (b.rows ≡ c.rows)))

grown_at : (l : List Account) (row : Row) (i : ℕ) (b : Account) → At (grown l (Some row)) i b → Was l row i b
grown_at [] row i b e = absurd (some-ne-none b (sym e))
grown_at (a ∷ others) row zero b e = let is = some-injective _ _ e in (a, refl, ap (λ (z : Account). z.number) (sym is), inl (refl, ap (λ (z : Account). z.rows) (sym is)))
grown_at (a ∷ others) row (suc i) b e = (b, e, refl, inr ((λ z. omega arith), refl))

get_at : {A : Type 0} (l : List A) (k : ℕ) (d : A) → k < length l → At l k (get_or l k d)
get_at [] k d h = absurd (omega arith)
get_at (x ∷ xs) zero d h = refl
get_at (x ∷ xs) (suc k) d h = get_at xs k d (omega arith)

-- what a row needs
pub record Enters (key : Key) (log : List Place) (v : View) (row : Row) : Type 0 where
  pub session : row.session ≡ head_number v.accounts
  pub number : row.number ≡ length (head_rows v.accounts)
  pub quiet : is_accepted row ≡ false
  pub answered : IsAnswered key.sizes key.carried (updates log) row
  pub below : row.point ≤ key.carried.base + length v.log
  pub rising : (j : ℕ) (r : Row) → At (head_rows v.accounts) j r → r.point ≤ row.point
  pub opened : (k : ℕ) → v.snapshot ≡ Some k → row.point ≤ key.carried.base + k

takes_none : (base p : ℕ) (row : Row) → is_accepted row ≡ false → claims base p row ≡ false
takes_none base p row e = ap (λ (b : Bool). b && (row.point == base + p + 1)) e

count_rows : (p : Row → Bool) (l : List Row) (r : Row) → p r ≡ false → count_by p (l ++ r ∷ []) ≡ count_by p l
count_rows p l r none =
    let h : count_by p (l ++ r ∷ []) ≡ count_by p l + (0 + cond {A = ℕ} (p r) 1 0) = sum_by-append (λ (k : Row). cond {A = ℕ} (p k) 1 0) l (r ∷ []) in
    let e : cond {A = ℕ} (p r) 1 0 ≡ 0 = ap (λ (b : Bool). cond {A = ℕ} b 1 0) none in omega arith

accounts_enter : (key : Key) (log : List Place) (accounts : ℕ → List Row) (v : View) (row : Row) → Enters key log v row → accounts (head_number v.accounts) ≡ head_rows v.accounts → AccountsPart key log accounts
    → AccountsPart key log (with_row accounts (head_number v.accounts) row)
accounts_enter key log accounts v row e mine p = let n : ℕ = head_number v.accounts in record {
  fits = λ s i r low at. dite (ℕ_discrete s n)
      (λ same. let at' : At (accounts n ++ row ∷ []) i r = subst (λ (l : List Row). At l i r) (ap (with_row accounts n row) same ∙ set_at-here accounts n (accounts n ++ row ∷ [])) at in
      ⊎_elim (λ old. p.fits s i r low (ap (λ z. get_elem? (accounts z) i) same ∙ old))
      (λ new. let count : i ≡ length (head_rows v.accounts) = new.0 ∙ ap length mine in subst (RowFits key log s i) new.1 record {
        session_is = e.session ∙ sym same;
        number_is = e.number ∙ sym count;
        answered = e.answered;
        made = λ q update is. let z : is_some (update_of row.call row.reply) ≡ true = ap is_some is in let y = e.quiet in absurd (cc);
      }) (at_new (accounts n) row r i at'))
      (λ apart. p.fits s i r low (ap (λ l. get_elem? l i) (sym (set_at-else accounts n (accounts n ++ row ∷ []) s apart)) ∙ at));
  rising = λ s low. dite (ℕ_discrete s n)
      (λ same. subst (AllPairs IsSeenBy) (sym (ap (with_row accounts n row) same ∙ set_at-here accounts n (accounts n ++ row ∷ [])))
      (all_pairs_push IsSeenBy (accounts n) row (p.rising n (subst (λ (z : ℕ). z < key.sizes.callers) same low))
      (λ k d inside. record { point = e.rising k (get_or (accounts n) k d) (ap (λ (l : List Row). get_elem? l k) (sym mine) ∙ get_at (accounts n) k d inside); accepted = λ yes_it. let y = e.quiet in absurd (cc) })))
      (λ apart. subst (AllPairs IsSeenBy) (sym (set_at-else accounts n (accounts n ++ row ∷ []) s apart)) (p.rising s low));
  claimed = λ q low. total_same key.sizes.callers _ _ (λ s below. dite (ℕ_discrete s n)
      (λ same. ap (count_by (claims key.carried.base q)) (ap (with_row accounts n row) same ∙ set_at-here accounts n (accounts n ++ row ∷ []))
      ∙ (count_rows (claims key.carried.base q) (accounts n) row (takes_none key.carried.base q row e.quiet) ∙ ap (λ z. count_by (claims key.carried.base q) (accounts z)) (sym same)))
      (λ apart. ap (count_by (claims key.carried.base q)) (set_at-else accounts n (accounts n ++ row ∷ []) s apart))) ∙ p.claimed q low;
}

-- what is said of a seat, with other accounts in the world
pub rowed_fits : (key : Key) (m : ℕ → ℕ → ℕ) (w : World) (accounts : ℕ → List Row) (id : ℕ) (v : View) → Fits key m w id v
    → ((i : ℕ) (a : Account) → At v.accounts i a → Owned key.sizes.callers accounts w.owner id i a) → Fits key m (record w { accounts = accounts }) id v
rowed_fits key m w accounts id v f owns = record {
  knows = f.knows;
  owns = owns;
  saw = f.saw;
  has_sessions = f.has_sessions;
  rows = f.rows;
  found = f.found;
  exchanges = f.exchanges;
  fits_pin = f.fits_pin;
  pinned = f.pinned;
  above_floor = f.above_floor;
  helps = f.helps;
  hands = f.hands;
  cursors = f.cursors;
  covers = f.covers;
  takes = f.takes;
  found_empty = f.found_empty;
  stopped = f.stopped;
  last_word = f.last_word;
  is_holder = f.is_holder;
  at_word = f.at_word;
  idles = f.idles;
  scans = f.scans;
  cuts = f.cuts;
  gives = f.gives;
  victims = f.victims;
  meets = f.meets;
  costs = f.costs;
}

abbrev pub with_account : View → Row → View
with_account v row = record v { accounts = grown v.accounts (Some row) }

pub own_fits : (key : Key) (m : ℕ → ℕ → ℕ) (w : World) (id : ℕ) (v : View) (row : Row) → row.point ≤ key.carried.base + length v.log → ((k : ℕ) → v.snapshot ≡ Some k → row.point ≤ key.carried.base + k) → (mine : w.accounts (head_number v.accounts) ≡ head_rows v.accounts) → 0 < length v.accounts → Fits key m w id v
    → Fits key m (record w { accounts = with_row w.accounts (head_number v.accounts) row }) id (with_account v row)
own_fits key m w id v row below opened mine one f =
    let n : ℕ = head_number v.accounts in let head = has_head v.accounts one in let long = length_grown v.accounts (Some row) in
    let first : Owned key.sizes.callers w.accounts w.owner id 0 head.0 = f.owns 0 head.0 head.1 in record {
      knows = f.knows;
      owns = λ i b e. let was = grown_at v.accounts row i b e in let o = f.owns i was.0 was.1 in record {
        below = subst (λ (z : ℕ). z < key.sizes.callers) (sym was.2) o.below;
        owner_is = ap w.owner was.2 ∙ o.owner_is;
        rows_are = ⊎_elim
            (λ (here : (i ≡ 0) × (b.rows ≡ was.0.rows ++ row ∷ [])). let same : head.0 ≡ was.0 = some-injective _ _ (sym head.1 ∙ (ap (λ z. get_elem? v.accounts z) (sym here.0) ∙ was.1)) in
            let num : b.number ≡ n = was.2 ∙ (ap (λ (z : Account). z.number) (sym same) ∙ sym head.2) in
            ap (with_row w.accounts n row) num ∙ (set_at-here w.accounts n (w.accounts n ++ row ∷ []) ∙ (ap (λ (l : List Row). l ++ row ∷ []) (mine ∙ (head.3 ∙ ap (λ (z : Account). z.rows) same)) ∙ sym here.1)))
            (λ (later : (i ≢ 0) × (b.rows ≡ was.0.rows)). set_at-else w.accounts n (w.accounts n ++ row ∷ []) b.number
            (λ num. let a : (id, 0) ≡ (id, i) = sym first.owner_is ∙ (ap w.owner (sym head.2 ∙ (sym num ∙ was.2)) ∙ o.owner_is) in later.0 (ap (λ (z : ℕ × ℕ). z.1) (sym a)))
            ∙ (ap w.accounts was.2 ∙ (o.rows_are ∙ sym later.1)))
            was.3;
      };
      saw = f.saw;
      has_sessions = record { hands_most = (let h = f.has_sessions.hands_most in omega arith); holding = λ e. let h = f.has_sessions.holding e in omega arith; spent = λ off. let h = f.has_sessions.spent off in let none = h.0 in (omega arith, h.1) };
      rows = record {
        below = λ i j b r e there. let was = grown_at v.accounts row i b e in ⊎_elim
            (λ (here : (i ≡ 0) × (b.rows ≡ was.0.rows ++ row ∷ [])). ⊎_elim (λ old. f.rows.below i j was.0 r was.1 old) (λ new. subst (λ (z : Row). z.point ≤ key.carried.base + length v.log) new.1 below) (at_new was.0.rows row r j (subst (λ (l : List Row). At l j r) here.1 there)))
            (λ (later : (i ≢ 0) × (b.rows ≡ was.0.rows)). f.rows.below i j was.0 r was.1 (subst (λ (l : List Row). At l j r) later.1 there)) was.3;
        opened = λ i j k b r is e there. let was = grown_at v.accounts row i b e in ⊎_elim
            (λ (here : (i ≡ 0) × (b.rows ≡ was.0.rows ++ row ∷ [])). ⊎_elim (λ old. f.rows.opened i j k was.0 r is was.1 old) (λ new. subst (λ (z : Row). z.point ≤ key.carried.base + k) new.1 (opened k is)) (at_new was.0.rows row r j (subst (λ (l : List Row). At l j r) here.1 there)))
            (λ (later : (i ≢ 0) × (b.rows ≡ was.0.rows)). f.rows.opened i j k was.0 r is was.1 (subst (λ (l : List Row). At l j r) later.1 there)) was.3;
      };
      found = f.found;
      exchanges = f.exchanges;
      fits_pin = record { session = λ p. let z : length (grown v.accounts (Some row)) ≡ length v.accounts = long in omega arith; covers = f.fits_pin.covers; fronts = f.fits_pin.fronts; cursor_pinned = f.fits_pin.cursor_pinned };
      pinned = λ i b e. let was = grown_at v.accounts row i b e in ap (m PIN) was.2 ∙ f.pinned i was.0 was.1;
      above_floor = λ s k of relies. f.above_floor s k (grown_first v.accounts (Some row) s of) relies;
      helps = f.helps;
      hands = f.hands;
      cursors = λ c e. let x = f.cursors c e in record {
        table = x.table;
        bucket = x.bucket;
        once = x.once;
        stands = ⊎_elim (λ z. inl z) (λ loose. inr record {
          reclaimed = loose.reclaimed;
          bucket = loose.bucket;
          cut = loose.cut;
          leads_back = loose.leads_back;
          pinned = loose.pinned;
          unscanned = λ s of. loose.unscanned s (grown_first v.accounts (Some row) s of);
        }) x.stands;
      };
      covers = f.covers;
      takes = f.takes;
      found_empty = f.found_empty;
      stopped = f.stopped;
      last_word = f.last_word;
      is_holder = f.is_holder;
      at_word = f.at_word;
      idles = f.idles;
      scans = f.scans;
      cuts = f.cuts;
      gives = f.gives;
      victims = f.victims;
      meets = f.meets;
      costs = f.costs;
    }

row_shared : (key : Key) (m : ℕ → ℕ → ℕ) (w : World) (views : List View) (id : ℕ) (v : View) (row : Row) → get_elem? views id ≡ some v → AccountsPart key w.log (with_row w.accounts (head_number v.accounts) row) → Shared key m w views
    → Shared key m (record w { accounts = with_row w.accounts (head_number v.accounts) row }) (set views id (with_account v row))
row_shared key m w views id v row at part s = let u : View = with_account v row in record {
  key_part = s.key_part;
  log = s.log;
  notes = s.notes;
  accounts = part;
  uses = s.uses;
  stamps = s.stamps;
  codes = s.codes;
  counts = subst (CountsPart key (m TAKE) (m PUT) w.log w.returned w.taken w.put) (sym (total_set (λ x. length x.hands) views id v u at refl)) s.counts;
  ring = s.ring;
  chains = s.chains;
  links = s.links;
  sweep = s.sweep;
  reclaimed = s.reclaimed;
  floors = s.floors;
  sessions = total_set (λ x. length x.accounts) views id v u at (length_grown v.accounts (Some row)) ∙ s.sessions;
  in_hands = set_in_hands w.uses views id v u refl at s.in_hands;
  sweeper = set_is_seat w.holder views id v u at s.sweeper;
}

pub row_inv : (key : Key) (m : ℕ → ℕ → ℕ) (w : World) (views : List View) (id : ℕ) (v : View) (row : Row) → Inv key m w views → get_elem? views id ≡ some v → 0 < length v.accounts → Enters key w.log v row
    → Inv key m (record w { accounts = with_row w.accounts (head_number v.accounts) row }) (set views id (with_account v row))
row_inv key m w views id v row i at one enters =
    let n : ℕ = head_number v.accounts in let accounts : ℕ → List Row = with_row w.accounts n row in let w' : World = record w { accounts = accounts } in let u : View = with_account v row in
    let head = has_head v.accounts one in let first = i.owns id v at 0 head.0 head.1 in
    let mine : w.accounts n ≡ head_rows v.accounts = ap w.accounts head.2 ∙ (first.rows_are ∙ sym head.3) in
    inv_of key m w' (set views id u) (row_shared key m w views id v row at (accounts_enter key w.log w.accounts v row enters mine i.accounts) (shared_of key m w views i))
    (each_moves (Fits key m w) (Fits key m w') views id u (fits_of key m w views i)
    (λ j d ne f. rowed_fits key m w accounts j d f (λ k a e. let o = f.owns k a e in record {
      below = o.below;
      owner_is = o.owner_is;
      rows_are = set_at-else w.accounts n (w.accounts n ++ row ∷ []) a.number (λ num. ne (ap (λ (z : ℕ × ℕ). z.0) (sym o.owner_is ∙ (ap w.owner (num ∙ head.2) ∙ first.owner_is)))) ∙ o.rows_are;
    }))
    (own_fits key m w id v row enters.below enters.opened mine one (fits_of key m w views i id v at)))
