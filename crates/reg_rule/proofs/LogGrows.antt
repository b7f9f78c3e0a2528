-- The log has one place more: what the rule says of it, and of each seat, but for the seat whose record it is.
use Rattle.std.proofs.Common.{◌≡◌, ℕ, ◌+◌, ◌<◌, ◌≤◌, ◌==◌, Bool, cond, ◌⊎◌, inl, inr, ⊎_elim, List, [], ◌∷◌, ◌++◌, length, take, count_by, sym, refl, ap, ◌∙◌, subst, arith, append_assoc}
use Rattle.std.proofs.lemmas.List.{take-append-le, map-append}
use mathlib.Core.Logic.{dite}
use native.Mathlib.Decide.{ℕ_discrete}
use Rattle.std.proofs.lemmas.List.Sums.{sum_by-append}
use Rattle.atomic_table.proofs.Lists.{at_longer}
use Rattle.iscc_header.specs.declared.unit.Unit64.{Unit64}
use Rattle.mih_plan.specs.declared.probe.Probe.{Probe}
use Rattle.mih_plan.specs.Buckets.{bucket_of, plan}
use Rattle.reg_model.specs.declared.update.Update.{Update}
use Rattle.reg_model.specs.declared.update.Update.TheVariants.{Decl, Wd}
use Rattle.reg_model.specs.declared.update.Declared.{Declared}
use Rattle.reg_model.specs.Opening.{Opening}
use Rattle.reg_model.specs.Live.{declared, declared_from, declarations, withdrawals}
use Rattle.reg_words.specs.Memory.{SWEEP, NOTE, LOG, set_at, write}
use Rattle.reg_rule.specs.declared.view.Key.{Key}
use Rattle.reg_rule.specs.declared.view.Place.{Place}
use Rattle.reg_rule.specs.declared.view.Hand.{Hand}
use Rattle.reg_rule.specs.declared.view.View.{View}
use Rattle.reg_rule.specs.Log.{At, updates, place_word, IsDecl, IsWd, IsLiveIn, Declares}
use Rattle.reg_rule.specs.inner.World.{Use, holds, World}
use Rattle.reg_rule.specs.inner.LogParts.{LogPart, NotesPart}
use Rattle.reg_rule.specs.inner.Sweeping.{IsReclaimed, SweepPart, ReclaimedPart}
use Rattle.reg_rule.specs.inner.HelpParts.{IsComplete}
use Rattle.reg_rule.specs.Candidates.{candidates}
use Rattle.reg_rule.specs.inner.Queries.{IsYoung}
use Rattle.reg_rule.specs.inner.Rule.{Inv}
use Rattle.reg_rule.proofs.Shows.{at_inside}
use Rattle.reg_rule.proofs.Once.{at_one_more, length_one_more, declares_one_more, declares_longer, declared_below, wd_declares}
use Rattle.reg_rule.proofs.StampsKept.{set_here, set_away}
use Rattle.reg_rule.proofs.Costs.{sum_le}
use Rattle.reg_rule.proofs.Fits.{Fits}

-- ---- the candidates of a query

count_front : {A : Type 0} (q : A → Bool) (l m : List A) → count_by q l ≤ count_by q (l ++ m)
count_front {A} q l m = let h : count_by q (l ++ m) ≡ count_by q l + count_by q m = sum_by-append (λ (x : A). cond {A = ℕ} (q x) 1 0) l m in omega arith

declared_from-append : (base : ℕ) (us : List Update) (u : Update) → (more : List Declared) × (declared_from base (us ++ u ∷ []) ≡ declared_from base us ++ more)
declared_from-append base [] u = (declared_from base (u ∷ []), refl)
declared_from-append base (Decl unit ∷ us) u = let h = declared_from-append (base + 1) us u in (h.0, ap (λ (l : List Declared). record { id = base; unit = unit } ∷ l) h.1)
declared_from-append base (Wd id ∷ us) u = declared_from-append (base + 1) us u

declared-append : (o : Opening) (us : List Update) (u : Update) → (more : List Declared) × (declared o (us ++ u ∷ []) ≡ declared o us ++ more)
declared-append o us u = let h = declared_from-append o.base us u in (h.0, ap (λ (l : List Declared). o.list ++ l) h.1 ∙ sym (append_assoc o.list (declared_from o.base us) h.0))

pub candidates_longer : (o : Opening) (log : List Place) (p : Place) (bits : ℕ) (unit : Unit64) (radius : ℕ) → candidates o (updates log) bits unit radius ≤ candidates o (updates (log ++ p ∷ [])) bits unit radius
candidates_longer o log p bits unit radius = let h = declared-append o (updates log) p.update in
    sum_le (λ (x : Probe). count_by (λ (d : Declared). bucket_of d.unit.body x.table bits == x.bucket) (declared o (updates log))) (λ (x : Probe). count_by (λ (d : Declared). bucket_of d.unit.body x.table bits == x.bucket) (declared o (updates (log ++ p ∷ []))))
    (plan unit.body radius bits)
    (λ j x at. let q : Declared → Bool = λ d. bucket_of d.unit.body x.table bits == x.bucket in let a = count_front q (declared o (updates log)) h.0 in
    let same : count_by q (declared o (updates (log ++ p ∷ []))) ≡ count_by q (declared o (updates log) ++ h.0) = ap (λ (us : List Update). count_by q (declared o us)) (map-append (λ (x : Place). x.update) log (p ∷ [])) ∙ ap (count_by q) h.1 in omega arith)

module _ (key : Key) (m : ℕ → ℕ → ℕ) (w : World) (views : List View) (i : Inv key m w views) (p : Place) where
  pub longer : length (w.log ++ p ∷ []) ≡ length w.log + 1
  longer = length_one_more w.log p

  pub at_old : (n : ℕ) (q : Place) → n < length w.log → At (w.log ++ p ∷ []) n q → At w.log n q
  at_old n q low at = ⊎_elim (λ old. old) (λ t. let e = t.0 in absurd (omega arith)) (at_one_more w.log p q n at)

  pub wd_old : (d id e : ℕ) → IsWd (w.log ++ p ∷ []) d id e → d < length w.log → IsWd w.log d id e
  wd_old d id e wd low = at_old d _ low wd

  pub reclaimed_old : (d id e : ℕ) → IsReclaimed (w.log ++ p ∷ []) w.begun w.returned d id e → IsReclaimed w.log w.begun w.returned d id e
  reclaimed_old d id e r = record { last = r.last; kept = r.kept; withdraws = wd_old d id e r.withdraws (let a = r.last in let b = i.sweep.seen in omega arith) }

  pub reclaimed_longer : (d id e : ℕ) → IsReclaimed w.log w.begun w.returned d id e → IsReclaimed (w.log ++ p ∷ []) w.begun w.returned d id e
  reclaimed_longer d id e r = record { last = r.last; kept = r.kept; withdraws = at_longer w.log (p ∷ []) d _ r.withdraws }

  -- what an old place withdraws was declared before
  declares_old : (d id e f : ℕ) (unit : Unit64) → IsWd w.log d id e → Declares key.carried (w.log ++ p ∷ []) id unit f → Declares key.carried w.log id unit f
  declares_old d id e f unit wd dec = ⊎_elim (λ old. old)
      (λ t. let a = wd_declares key.carried w.log d id e i.log.lawful wd in let b = declared_below key.carried w.log id e a.0 i.key_part.opening a.1 in let c = t.0 in absurd (omega arith))
      (declares_one_more key.carried w.log p id f unit dec)

  seen_low : (v : View) → ((more : List Place) × (w.log ≡ v.log ++ more)) → length v.log ≤ length w.log
  seen_low v saw = let a : length w.log ≡ length (v.log ++ saw.0) = ap length saw.1 in let b = length_appended v.log saw.0 in omega arith where
    length_appended : (l k : List Place) → length l ≤ length (l ++ k)
    length_appended [] k = omega arith
    length_appended (x ∷ l) k = let h = length_appended l k in omega arith

  -- ---- parts of words and world

  pub sweep_longer : SweepPart (m SWEEP) (w.log ++ p ∷ []) w.word w.holder w.begun w.returned
  sweep_longer = record {
    word_is = i.sweep.word_is;
    held = i.sweep.held;
    order = i.sweep.order;
    seen = (let a = i.sweep.seen in let b = longer in omega arith);
    at_work = λ work. let o = i.sweep.at_work work in (o.0, o.1, o.2, reclaimed_longer o.0 o.1 o.2 o.3, λ d x e from low wd. let r = o.3.last in let s = i.sweep.seen in o.4 d x e from low (wd_old d x e wd (omega arith)));
    within = (let a = i.sweep.within in let b = longer in omega arith);
    passed = λ d x e from low wd. let a = i.sweep.within in i.sweep.passed d x e from low (wd_old d x e wd (omega arith));
    ahead = λ d x e from low wd. let a = i.sweep.order in let b = i.sweep.seen in i.sweep.ahead d x e from low (wd_old d x e wd (omega arith));
    limbo = λ is. let o = i.sweep.limbo is in let a = o.2 in (o.0, o.1, (let b = longer in omega arith));
    unmarked = i.sweep.unmarked;
    rests = i.sweep.rests;
    waits = i.sweep.waits;
  }

  pub reclaimed_part : ReclaimedPart (w.log ++ p ∷ []) w.stamps w.linked w.word w.begun w.returned w.mark
  reclaimed_part = record {
    dead = λ d x e r. i.reclaimed.dead d x e (reclaimed_old d x e r);
    apart = λ d x e k r is. let o = i.reclaimed.apart d x e k (reclaimed_old d x e r) is in let a = o.2 in (o.0, o.1, (let b = longer in omega arith));
    marked = i.reclaimed.marked;
  }

  pub log_longer : (new : ℕ) → length w.log < key.sizes.log → new ≡ place_word key.carried.base (length w.log) p → p.entry < key.entries
      → ((unit : Unit64) → p.update ≡ Decl unit → unit.kind < 13) → ((id : ℕ) → p.update ≡ Wd id → (unit : Unit64) × IsLiveIn key.carried w.log id unit p.entry)
      → LogPart key (set_at (m LOG) (length w.log) new) (w.log ++ p ∷ [])
  log_longer new room word entry kind live = record {
    short = (let a = longer in omega arith);
    filled = λ n q at. ⊎_elim
        (λ old. set_away (m LOG) (length w.log) n new (λ same. let a = at_inside w.log n q old in omega arith) ∙ i.log.filled n q old)
        (λ t. subst (λ (z : ℕ × Place). set_at (m LOG) (length w.log) new z.0 ≡ place_word key.carried.base z.0 z.1) (λ k. (sym t.0 k, t.1 k)) (set_here (m LOG) (length w.log) new ∙ word))
        (at_one_more w.log p q n at);
    empty = λ n low. let a = longer in set_away (m LOG) (length w.log) n new (λ same. omega arith) ∙ i.log.empty n (omega arith);
    entries = λ n q at. ⊎_elim (λ old. i.log.entries n q old) (λ t. subst (λ (z : Place). z.entry < key.entries) t.1 entry) (at_one_more w.log p q n at);
    kinds = λ n un e at. ⊎_elim (λ old. i.log.kinds n un e old) (λ t. kind un (ap (λ (z : Place). z.update) t.1)) (at_one_more w.log p _ n at);
    lawful = λ d x e at. ⊎_elim
        (λ old. let o = i.log.lawful d x e old in let a = at_inside w.log d _ old in (o.0, subst (λ (l : List Place). IsLiveIn key.carried l x o.0 e) (sym (take-append-le d w.log (p ∷ []) (omega arith))) o.1))
        (λ t. let o = live x (ap (λ (z : Place). z.update) t.1) in let there : p.entry ≡ e = ap (λ (z : Place). z.entry) t.1 in
        (o.0, subst (λ (l : List Place). IsLiveIn key.carried l x o.0 e) (sym (ap (λ (n : ℕ). take n (w.log ++ p ∷ [])) t.0 ∙ take_front w.log (p ∷ []))) (subst (λ (z : ℕ). IsLiveIn key.carried w.log x o.0 z) there o.1)))
        (at_one_more w.log p _ d at);
  } where
    take_front : (l k : List Place) → take (length l) (l ++ k) ≡ l
    take_front [] k = refl
    take_front (x ∷ l) k = ap (λ (z : List Place). x ∷ z) (take_front l k)

  pub notes_longer : ((n : ℕ) → n + 1 ≡ length w.log → IsComplete key.carried.base (m NOTE) w.uses w.stamps w.log n) → NotesPart (m NOTE) (w.log ++ p ∷ [])
  notes_longer done = record { noted = λ n un e low d. let a = longer in by_last n un e (omega arith) (at_old n _ (omega arith) d) } where
    by_last : (n : ℕ) (un : Unit64) (e : ℕ) → n < length w.log → IsDecl w.log n un e → m NOTE n ≡ un.body
    by_last n un e low d = dite (ℕ_discrete (n + 1) (length w.log)) (λ last. (done n last).noted un e d) (λ earlier. i.notes.noted n un e (omega arith) d)

  -- ---- a seat

  module _ (uses' : ℕ → Use)
      (held_was : (e id : ℕ) → uses' e ≡ holds id → (w.uses e ≡ holds id) ⊎ (id ≡ key.carried.base + length w.log))
      (young : (k e : ℕ) → k ≤ length w.log → IsYoung key.carried.base k (w.uses e) → IsYoung key.carried.base k (uses' e)) where
    abbrev pub grown : World
    grown = record w { log = w.log ++ p ∷ []; uses = uses' }

    complete : (n : ℕ) → n < length w.log → IsComplete key.carried.base (m NOTE) w.uses w.stamps w.log n → IsComplete key.carried.base (m NOTE) uses' w.stamps (w.log ++ p ∷ []) n
    complete n low c = record {
      noted = λ un e d. c.noted un e (at_old n _ low d);
      born = λ un e d is. ⊎_elim (λ was. c.born un e (at_old n _ low d) was) (λ new. absurd (omega arith)) (held_was e (key.carried.base + n) is);
      dead = λ x e kind d is. let old = at_old n _ low d in ⊎_elim (λ was. c.dead x e kind old was)
          (λ new. let a = wd_declares key.carried w.log n x e i.log.lawful old in let b = declared_below key.carried w.log x e a.0 i.key_part.opening a.1 in absurd (omega arith)) (held_was e x is);
    }

    pub grown_fits : (new j : ℕ) (v : View) → ((l : ℕ) (x : Hand) → At v.hands l x → uses' x.entry ≡ w.uses x.entry) → Fits key m w j v → Fits key (write m LOG (length w.log) new) grown j v
    grown_fits new j v same f = record {
      knows = f.knows;
      owns = f.owns;
      saw = (f.saw.0 ++ p ∷ [], ap (λ (l : List Place). l ++ p ∷ []) f.saw.1 ∙ append_assoc v.log f.saw.0 (p ∷ []));
      has_sessions = f.has_sessions;
      rows = f.rows;
      found = f.found;
      exchanges = f.exchanges;
      fits_pin = f.fits_pin;
      pinned = f.pinned;
      above_floor = f.above_floor;
      helps = record { noted = λ n un e is d. let low = f.helps.noted_seen n is in f.helps.noted n un e is (at_old n _ (let s = seen_low v f.saw in omega arith) d); noted_seen = f.helps.noted_seen; helped = λ n is. let g = f.helps.helped n is in (g.0, complete n (let s = seen_low v f.saw in let l = g.0 in omega arith) g.1) };
      hands = λ l x e. let g = f.hands l x e in record { inside = g.inside; use_is = same l x e ∙ g.use_is; unborn = g.unborn; code = g.code; tables = g.tables; written = g.written; ready = g.ready };
      cursors = λ c e. let g = f.cursors c e in record {
        table = g.table;
        bucket = g.bucket;
        stands = ⊎_elim (λ x. inl x) (λ loose. inr (record {
          reclaimed = (loose.reclaimed.0, loose.reclaimed.1, reclaimed_longer loose.reclaimed.0 loose.reclaimed.1 c.entry loose.reclaimed.2);
          bucket = λ d x un wd last dec. let old = wd_old d x c.entry wd (let s = i.sweep.seen in omega arith) in loose.bucket d x un old last (declares_old d x c.entry c.entry un old dec);
          cut = loose.cut;
          leads_back = loose.leads_back;
          pinned = loose.pinned;
          unscanned = loose.unscanned;
        })) g.stands;
        once = g.once;
      };
      covers = f.covers;
      takes = f.takes;
      found_empty = λ e is. let o = f.found_empty e is in record {
        front = (let a = o.front in let b = longer in omega arith);
        stop = (let a = o.stop in let b = longer in omega arith);
        declared = subst (λ (l : List Place). declarations (updates l) ≤ e.taken) (sym (take-append-le e.front w.log (p ∷ []) o.front)) o.declared;
        hands = subst (λ (l : List Place). e.taken < declarations (updates l) + key.sizes.callers) (sym (take-append-le e.front w.log (p ∷ []) o.front)) o.hands;
        given = subst (λ (l : List Place). e.taken + length key.carried.list ≤ key.sizes.entries + withdrawals (updates l)) (sym (take-append-le e.front w.log (p ∷ []) o.front)) o.given;
        swept = subst (λ (l : List Place). key.sizes.entries + withdrawals (updates l) ≤ e.taken + length key.carried.list) (sym (take-append-le e.stopped w.log (p ∷ []) o.stop)) o.swept;
      };
      stopped = ((let a = f.stopped.0 in let b = longer in omega arith), λ d x e from low wd. let a = f.stopped.0 in f.stopped.1 d x e from low (wd_old d x e wd (omega arith)));
      last_word = f.last_word;
      is_holder = f.is_holder;
      at_word = λ h e. let o = f.at_word h e in record { word_is = o.word_is; held = o.held; from = o.from; within = (let a = o.within in let b = longer in omega arith); between = λ out d x en a b wd. let c = o.within in o.between out d x en a b (wd_old d x en wd (omega arith)); limbo = o.limbo };
      idles = f.idles;
      scans = f.scans;
      cuts = f.cuts;
      gives = f.gives;
      victims = f.victims;
      meets = λ l k x snap there. let o = f.meets l k x snap there in record { table = o.table; inside = o.inside; named = λ n is. let q = o.named n is in (q.0, declares_longer key.carried w.log (p ∷ []) n x.entry q.0 q.1, q.2); unborn = λ is. let q = o.unborn is in (young k x.entry (let s = seen_low v f.saw in let a = (f.fits_pin.fronts k (inr snap)).2 in omega arith) q.0, q.1, q.2) };
      costs = λ l c at. let o = f.costs l c at in let more = candidates_longer key.carried w.log p key.sizes.bits c.unit c.radius in omega arith;
    }
