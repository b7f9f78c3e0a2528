-- A seat has found the next place filled.
use Rattle.std.proofs.Common.{◌≡◌, ℕ, zero, suc, ◌+◌, ◌<◌, ◌≤◌, eqb, cond, Bool, true, false, ◌⊎◌, inl, inr, ⊎_elim, List, [], ◌∷◌, ◌++◌, length, take, set, count_by, Some, sym, ap, ◌∙◌, refl, subst, arith, append_assoc, length-append}
use Rattle.std.proofs.lemmas.List.{take-append-le}
use Rattle.std.proofs.lemmas.List.Sums.{sum_by-append}
use Rattle.std.proofs.Math.Decide.{dec_lt}
use mathlib.Core.Logic.{dite}
use mathlib.Core.Option.{some, some-injective, some-ne-none}
use lib.ListN.{get_elem?}
use Rattle.atomic_table.proofs.Lists.{at_longer}
use Rattle.iscc_header.specs.declared.unit.Unit64.{Unit64}
use Rattle.reg_model.specs.Opening.{Opening}
use Rattle.reg_rule.specs.declared.view.Key.{Key}
use Rattle.reg_rule.specs.declared.view.Place.{Place}
use Rattle.reg_rule.specs.declared.view.Holding.{Holding}
use Rattle.reg_rule.specs.declared.view.View.{View}
use Rattle.reg_rule.specs.Log.{At, IsDecl, IsWd, IsKeptUpTo, Declares, IsLiveIn}
use Rattle.reg_rule.specs.inner.World.{World}
use Rattle.reg_rule.specs.Tables.{is_in}
use Rattle.reg_words.specs.Memory.{SWEEP, LOG}
use Rattle.reg_rule.specs.inner.LogParts.{LogPart}
use Rattle.reg_rule.specs.inner.Entries.{UsesPart}
use Rattle.reg_rule.specs.inner.ChainParts.{LinksPart}
use Rattle.reg_rule.specs.inner.Sweeping.{SweepPart}
use Rattle.reg_rule.specs.inner.Rule.{KeyPart, Inv}
use Rattle.reg_rule.specs.Moves.{passed}
use Rattle.reg_rule.proofs.Held.{declared_first}
use Rattle.reg_rule.proofs.Shows.{at_below, at_inside}
use Rattle.reg_rule.proofs.Fits.{Fits, fits_of}
use Rattle.reg_rule.proofs.Sets.{fits_set}

-- what is read here of the words and the world
pub record Ground (key : Key) (m : ℕ → ℕ → ℕ) (w : World) : Type 0 where
  pub key_part : KeyPart key
  pub log : LogPart key (m LOG) w.log
  pub uses : UsesPart key w.log w.returned w.uses
  pub links : LinksPart key w.log w.begun w.uses w.linked
  pub sweep : SweepPart (m SWEEP) w.log w.word w.holder w.begun w.returned

pub ground_of : (key : Key) (m : ℕ → ℕ → ℕ) (w : World) (views : List View) → Inv key m w views → Ground key m w
ground_of key m w views i = record { key_part = i.key_part; log = i.log; uses = i.uses; links = i.links; sweep = i.sweep }

-- the withdrawals of what is withdrawn at a place stand there or later
pub kept_to_its_place : (key : Key) (m : ℕ → ℕ → ℕ) (w : World) → Ground key m w → (d id entry : ℕ) → IsWd w.log d id entry → IsKeptUpTo w.log d id
kept_to_its_place key m w i d id entry wd c other cd = let live = (i.log.lawful d id entry wd).1 in
    dite (dec_lt c d)
    (λ low. let in_front = at_below w.log d c _ low cd in let h = live.kept c other in_front in let n = at_inside (take d w.log) c _ in_front in absurd (omega arith))
    (λ high. omega arith)

one_most : (b : Bool) → cond {A = ℕ} b 1 0 ≤ 1
one_most true = omega arith
one_most false = omega arith

pub count_one : (p : ℕ → Bool) (l : List ℕ) (n : ℕ) → count_by p (l ++ n ∷ []) ≤ count_by p l + 1
count_one p l n =
    let h : count_by p (l ++ n ∷ []) ≡ count_by p l + (0 + cond {A = ℕ} (p n) 1 0) = sum_by-append (λ (k : ℕ). cond {A = ℕ} (p k) 1 0) l (n ∷ []) in
    let e = one_most (p n) in omega arith

declares_longer : (o : Opening) (log more : List Place) (id entry : ℕ) (unit : Unit64) → Declares o log id unit entry → Declares o (log ++ more) id unit entry
declares_longer o log more id entry unit h = ⊎_elim (λ (c : At o.list entry (record { id = id; unit = unit })). inl c)
    (λ (t : (n : ℕ) × (id ≡ o.base + n) × IsDecl log n unit entry). inr (t.0, t.1, at_longer log more t.0 _ t.2)) h

pub at_new : {A : Type 0} (l : List A) (a b : A) (n : ℕ) → At (l ++ a ∷ []) n b → At l n b ⊎ ((n ≡ length l) × (a ≡ b))
at_new [] a b zero e = inr (refl, some-injective a b e)
at_new [] a b (suc n) e = absurd (some-ne-none b (sym e))
at_new (x ∷ xs) a b zero e = inl e
at_new (x ∷ xs) a b (suc n) e = ⊎_elim (λ h. inl h) (λ t. inr (ap suc t.0, t.1)) (at_new xs a b n e)

-- what is withdrawn at a place was declared before it
declared_below : (key : Key) (m : ℕ → ℕ → ℕ) (w : World) (seen more : List Place) (p : Place) → Ground key m w → w.log ≡ seen ++ p ∷ more → (d id entry at : ℕ) (unit : Unit64) → d < length seen → IsWd w.log d id entry
    → Declares key.carried (seen ++ p ∷ []) id unit at → Declares key.carried seen id unit at
declared_below key m w seen more p i is d id entry at unit low wd declares = ⊎_elim (λ (c : At key.carried.list at (record { id = id; unit = unit })). inl c)
    (λ (t : (n : ℕ) × (id ≡ key.carried.base + n) × IsDecl (seen ++ p ∷ []) n unit at).
    let live = i.log.lawful d id entry wd in
    let first : t.0 < d = declared_first key w.log t.0 d entry live.0 i.key_part.opening.below (subst (λ (z : ℕ). IsLiveIn key.carried (take d w.log) z live.0 entry) t.1 live.1) in
    ⊎_elim (λ old. inr (t.0, t.1, old)) (λ new. let z = new.0 in absurd (omega arith)) (at_new seen p _ t.0 t.2))
    declares

-- an entry that is withdrawn at a place where the holder has done nothing is linked in all tables
still_linked : (key : Key) (m : ℕ → ℕ → ℕ) (w : World) (id : ℕ) (v : View) (h : Holding) (withdrawn entry table : ℕ) (unit : Unit64) → Ground key m w → Fits key m w id v → v.holding ≡ Some h
    → h.word.limbo ≡ false → h.cut ≡ [] → IsWd w.log h.place withdrawn entry → Declares key.carried w.log withdrawn unit entry → entry < key.entries → table < 4 → w.linked table entry ≡ true
still_linked key m w id v h withdrawn entry table unit i f holds out none wd declares inside low =
    let here = f.at_word h holds in let from = here.from in let place : w.word.place ≡ h.word.place = ap (λ z. z.place) here.word_is in
    let word_out : w.word.limbo ≡ false = ap (λ z. z.limbo) here.word_is ∙ out in
    let uncut : w.returned ≡ w.begun = (f.cuts h holds).uncut out none in
    let behind : w.returned ≤ h.place = dite (dec_lt h.place w.returned) (λ l. let a = (i.sweep.ahead h.place withdrawn entry (omega arith) l wd).0 in absurd (cc)) (λ g. omega arith) in
    let kept = kept_to_its_place key m w i h.place withdrawn entry wd in
    i.links.held table withdrawn entry low inside
    (i.uses.held withdrawn entry unit declares (λ d e there. let k = kept d e there in omega arith))
    (λ d e there. let k = kept d e there in omega arith)

pub passed_fits : (key : Key) (m : ℕ → ℕ → ℕ) (w : World) (id : ℕ) (v : View) (kind : ℕ) (p : Place) (more : List Place) → 0 < length v.accounts → Ground key m w → Fits key m w id v → w.log ≡ v.log ++ p ∷ more → Fits key m w id (passed v kind p)
passed_fits key m w id v kind p more one i f is =
    let long : length (v.log ++ p ∷ []) ≡ length v.log + 1 = length-append v.log (p ∷ []) in record {
      knows = f.knows;
      owns = f.owns;
      saw = (more, is ∙ sym (append_assoc v.log (p ∷ []) more));
      has_sessions = record { hands_most = f.has_sessions.hands_most; holding = f.has_sessions.holding; spent = λ off. let none = (f.has_sessions.spent off).0 in absurd (omega arith) };
      rows = record { below = λ n j a row e there. let b = f.rows.below n j a row e there in omega arith; opened = f.rows.opened };
      found = λ x e. let old = f.found x e in let low = old.0 in (omega arith, (old.1.0, subst (λ (l : List Place). IsLiveIn key.carried l x.id old.1.0 x.entry) (sym (take-append-le x.place v.log (p ∷ []) low)) old.1.1));
      exchanges = let e = f.exchanges in let c = count_one (λ k. eqb k 2) v.made kind in omega arith;
      fits_pin = record { session = f.fits_pin.session; covers = (let c = f.fits_pin.covers in omega arith); fronts = λ k h. let o = f.fits_pin.fronts k h in let low = o.2 in (o.0, o.1, omega arith); cursor_pinned = f.fits_pin.cursor_pinned };
      pinned = f.pinned;
      above_floor = f.above_floor;
      helps = record { noted = f.helps.noted; noted_seen = λ n e. let o = f.helps.noted_seen n e in omega arith; helped = λ n e. let o = f.helps.helped n e in let low = o.0 in (omega arith, o.1) };
      hands = f.hands;
      cursors = f.cursors;
      covers = λ c k declared entry unit cursor opened live. let low = (f.fits_pin.fronts k (inr opened)).2 in f.covers c k declared entry unit cursor opened (subst (λ (l : List Place). IsLiveIn key.carried l declared unit entry) (take-append-le k v.log (p ∷ []) low) live);
      takes = f.takes;
      found_empty = f.found_empty;
      stopped = f.stopped;
      last_word = f.last_word;
      is_holder = f.is_holder;
      at_word = f.at_word;
      idles = λ h e low. f.idles h e (omega arith);
      scans = f.scans;
      cuts = λ h e. let o = f.cuts h e in record { uncut = o.uncut; cut = λ out some. let c = o.cut out some in let low = c.3 in (c.0, c.1, c.2, omega arith); unmarked = o.unmarked; mark_is = o.mark_is };
      gives = λ h e. let o = f.gives h e in record {
        put_is = o.put_is;
        given = λ gave. let g = o.given gave in (g.0, g.1, λ withdrawn entry wd. ⊎_elim (λ old. g.2 withdrawn entry old) (λ new. let off = (f.idles h e (let z = new.0 in omega arith)).4 in absurd (cc)) (at_new v.log p _ h.place wd));
        back = o.back;
        kept = o.kept;
      };
      victims = λ h withdrawn entry unit e wd declares.
          let in_log : IsWd w.log h.place withdrawn entry = subst (λ (l : List Place). IsWd l h.place withdrawn entry) (append_assoc v.log (p ∷ []) more ∙ sym is) (at_longer (v.log ++ p ∷ []) more h.place _ wd) in
          let in_all : Declares key.carried w.log withdrawn unit entry = subst (λ (l : List Place). Declares key.carried l withdrawn unit entry) (append_assoc v.log (p ∷ []) more ∙ sym is) (declares_longer key.carried (v.log ++ p ∷ []) more withdrawn entry unit declares) in
          ⊎_elim (λ old. f.victims h withdrawn entry unit e old (declared_below key m w v.log more p i is h.place withdrawn entry entry unit (at_inside v.log h.place _ old) in_log declares))
          (λ new. let off = f.idles h e (let z = new.0 in omega arith) in record {
            dead = λ on low. absurd (let x = off.0 in cc);
            tables = λ table low out. (
              (λ gone. let t = still_linked key m w id v h withdrawn entry table unit i f e out off.1 in_log in_all (i.log.entries h.place _ in_log) low in absurd (cc)),
              (λ there. let none : is_in table h.cut ≡ false = ap (is_in table) off.1 in absurd (cc)),
            );
            behind = λ l there low. absurd (let x = off.3 in cc);
            way = λ x there. absurd (let y = off.2 in cc);
          }) (at_new v.log p _ h.place wd);
      meets = f.meets;
      costs = f.costs;
    }

pub passed_inv : (key : Key) (m : ℕ → ℕ → ℕ) (w : World) (views : List View) (id : ℕ) (v : View) (kind : ℕ) (p : Place) (more : List Place) → 0 < length v.accounts → Inv key m w views → get_elem? views id ≡ some v → w.log ≡ v.log ++ p ∷ more → Inv key m w (set views id (passed v kind p))
passed_inv key m w views id v kind p more one i at is = fits_set key m w views id v (passed v kind p) i at refl refl (passed_fits key m w id v kind p more one (ground_of key m w views i) (fits_of key m w views i id v at) is)
