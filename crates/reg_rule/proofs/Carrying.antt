-- The words of a round that begins with what is carried, filled one declaration after another: its code and its stamp, and then a push in each table.
use Rattle.std.proofs.Common.{◌≡◌, ◌≢◌, ℕ, ◌+◌, ◌*◌, ◌^◌, ◌<◌, inl, inr, ⊎_elim, All, Bool, true, false, None, List, [], length, set, get_or, length-set, sym, refl, ap, ◌∙◌, subst, arith, lt-ltb, ltb-true}
use mathlib.Core.Logic.{dite}
use native.Mathlib.Decide.{ℕ_discrete}
use mathlib.Core.Option.{some-injective}
use lib.ListN.{get_elem?}
use Rattle.std.proofs.Math.Decide.{dec_lt}
use Rattle.std.proofs.lemmas.Bool.Decides.{nat_tests}
use Rattle.mih_plan.specs.Buckets.{bucket_of}
use Rattle.reg_model.specs.declared.update.Declared.{Declared}
use Rattle.reg_model.specs.Limits.{Limits, IsInRange}
use Rattle.reg_model.specs.Opening.{Opening, IsOpening}
use Rattle.reg_model.specs.Registry.{start_refusal}
use Rattle.atomic_table.specs.Table.{opening}
use Rattle.reg_words.specs.declared.word.StampWord.TheVariants.{Live}
use Rattle.reg_words.specs.Packing.{stamp_word}
use Rattle.reg_rule.specs.Links.{link_word}
use Rattle.reg_words.specs.Memory.{HEAD, CODE, STAMP, NEXT, size, whole, start, mem, set_at, write}
use Rattle.reg_words.proofs.Memory.{mem-read, mem-write, set_at-here, set_at-else}
use Rattle.reg_rule.specs.declared.view.Key.{Key}
use Rattle.reg_rule.specs.Log.{At}
use Rattle.reg_rule.specs.Rounds.{key_of}
use Rattle.reg_rule.specs.Chains.{Member}
use Rattle.reg_rule.specs.inner.ChainParts.{head_cell, next_cell, ChainsPart}
use Rattle.reg_rule.specs.inner.Opening.{Opened, CarriedTo, Filling, CanBegin, IsBelow, stamp_of, is_carried}
use Rattle.reg_rule.specs.inner.Rule.{sizes, Kept, first}
use Rattle.reg_rule.proofs.Opens.{none_past}
use Rattle.reg_rule.proofs.Held.{there}
use Rattle.reg_rule.proofs.Shows.{at_inside}
use Rattle.reg_rule.proofs.Held.{at_nth}
use Rattle.reg_rule.proofs.StoresNext.{cell_inside}
use Rattle.reg_rule.proofs.SwapsHead.{bucket_below}
use Rattle.reg_rule.proofs.Filling.{stamp_word-unborn, opens_table}
use Rattle.reg_rule.proofs.ChainSteps.{stores_next, pushes, pushed_chains, pushed_linked}
use Rattle.reg_rule.proofs.CursorsCut.{set_in_here, set_in_away}

one_there : (l : List Declared) (e i : ℕ) (x d : Declared) → e ≡ i → At l e x → At l i d → d ≡ x
one_there l e i x d same a b = some-injective d x (sym b ∙ (ap (λ (z : ℕ). get_elem? l z) (sym same) ∙ a))

stores_code : (key : Key) (heads nexts codes : ℕ → ℕ) (chains : ℕ → ℕ → List ℕ) (linked : ℕ → ℕ → Bool) (e x : ℕ) → ((table : ℕ) → linked table e ≡ false) → ChainsPart key heads nexts codes chains linked → ChainsPart key heads nexts (set_at codes e x) chains linked
stores_code key heads nexts codes chains linked e x off k =
    let apart : (table a : ℕ) → linked table a ≡ true → set_at codes e x a ≡ codes a = λ table a on. set_at-else codes e x a (λ same. let out : linked table a ≡ false = ap (linked table) same ∙ off table in absurd (cc)) in record {
      leads = k.leads;
      once = k.once;
      tables = k.tables;
      inside = λ table bucket a member. let h = k.inside table bucket a member in (h.0, h.1, ap (λ (z : ℕ). bucket_of z table key.sizes.bits) (apart table a h.1) ∙ h.2);
      whole = λ table a low inside on. subst (λ (z : ℕ). Member a (chains table (bucket_of z table key.sizes.bits))) (sym (apart table a on)) (k.whole table a low inside on);
    }

-- the same entries, named otherwise
relabelled : (key : Key) (heads nexts codes : ℕ → ℕ) (chains : ℕ → ℕ → List ℕ) (linked other : ℕ → ℕ → Bool) → ((table e : ℕ) → linked table e ≡ true → other table e ≡ true) → ((table e : ℕ) → table < 4 → other table e ≡ true → linked table e ≡ true)
    → ChainsPart key heads nexts codes chains linked → ChainsPart key heads nexts codes chains other
relabelled key heads nexts codes chains linked other to back k = record {
  leads = k.leads;
  once = k.once;
  tables = k.tables;
  inside = λ table bucket a member. let h = k.inside table bucket a member in (h.0, to table a h.1, h.2);
  whole = λ table a low inside on. k.whole table a low inside (back table a low on);
}

-- the next declaration's code and stamp
pub written_more : (key : Key) (m : ℕ → ℕ → ℕ) (chains : ℕ → ℕ → List ℕ) (i : ℕ) (d : Declared) (linked : ℕ → ℕ → Bool) → At key.carried.list i d → ((table : ℕ) → linked table i ≡ false) → CarriedTo key m chains i linked
    → CarriedTo key (write (write m CODE i d.unit.body) STAMP i (stamp_word (Live d.unit.kind d.id))) chains (i + 1) linked
written_more key m chains i d linked at off c = record {
  take_is = c.take_is;
  put_is = c.put_is;
  sweep_is = c.sweep_is;
  pins = c.pins;
  places = c.places;
  gives = c.gives;
  codes = λ e x low here. dite (ℕ_discrete e i)
      (λ same. ap (set_at (m CODE) i d.unit.body) same ∙ (set_at-here (m CODE) i d.unit.body ∙ ap (λ (z : Declared). z.unit.body) (one_there key.carried.list e i x d same here at)))
      (λ apart. set_at-else (m CODE) i d.unit.body e apart ∙ c.codes e x (omega arith) here);
  stamps_in = λ e x low here. dite (ℕ_discrete e i)
      (λ same. ap (set_at (m STAMP) i (stamp_word (Live d.unit.kind d.id))) same ∙ (set_at-here (m STAMP) i (stamp_word (Live d.unit.kind d.id)) ∙ ap (λ (z : Declared). stamp_word (Live z.unit.kind z.id)) (one_there key.carried.list e i x d same here at)))
      (λ apart. set_at-else (m STAMP) i (stamp_word (Live d.unit.kind d.id)) e apart ∙ c.stamps_in e x (omega arith) here);
  stamps_out = λ e high. set_at-else (m STAMP) i (stamp_word (Live d.unit.kind d.id)) e (λ same. omega arith) ∙ c.stamps_out e (omega arith);
  chained = stores_code key (m HEAD) (m NEXT) (m CODE) chains linked i d.unit.body off c.chained;
}

-- a push of a declaration in one table
pub linked_more : (key : Key) (m : ℕ → ℕ → ℕ) (chains : ℕ → ℕ → List ℕ) (full i table bucket : ℕ) (d : Declared) (linked : ℕ → ℕ → Bool) → At key.carried.list i d → i < full → table < 4 → bucket < 2 ^ key.sizes.bits → i < key.entries → linked table i ≡ false
    → bucket_of d.unit.body table key.sizes.bits ≡ bucket → CarriedTo key m chains full linked
    → CarriedTo key (write (write m NEXT (next_cell key.entries table i) (m HEAD (head_cell key.sizes.bits table bucket))) HEAD (head_cell key.sizes.bits table bucket) (link_word i)) (pushed_chains chains table bucket i) full (pushed_linked linked table i)
linked_more key m chains full i table bucket d linked at low tlow blow inside off code c =
    let cell : ℕ = next_cell key.entries table i in let word : ℕ = m HEAD (head_cell key.sizes.bits table bucket) in record {
      take_is = c.take_is;
      put_is = c.put_is;
      sweep_is = c.sweep_is;
      pins = c.pins;
      places = c.places;
      gives = c.gives;
      codes = c.codes;
      stamps_in = c.stamps_in;
      stamps_out = c.stamps_out;
      chained = pushes key (m HEAD) (set_at (m NEXT) cell word) (m CODE) chains linked table bucket i tlow blow inside off (ap (λ (z : ℕ). bucket_of z table key.sizes.bits) (c.codes i d low at) ∙ code) (set_at-here (m NEXT) cell word)
          (stores_next key (m HEAD) (m NEXT) (m CODE) chains linked table i word inside off c.chained);
    }

-- once all is carried, and linked in all tables, the words are those of the start
pub carried_all : (key : Key) (m : ℕ → ℕ → ℕ) (chains : ℕ → ℕ → List ℕ) (linked : ℕ → ℕ → Bool) → ((table e : ℕ) → linked table e ≡ true → e < length key.carried.list) → ((table e : ℕ) → table < 4 → e < length key.carried.list → linked table e ≡ true)
    → CarriedTo key m chains (length key.carried.list) linked → Opened key m chains
carried_all key m chains linked most all c = let list = key.carried.list in record {
  take_is = c.take_is;
  put_is = c.put_is;
  sweep_is = c.sweep_is;
  pins = c.pins;
  places = c.places;
  gives = c.gives;
  codes = λ e d at. c.codes e d (at_inside list e d at) at;
  stamps = λ e low. dite (dec_lt e (length list))
      (λ l. let d = there list e l in c.stamps_in e d.0 l d.1 ∙ sym (ap (λ x. stamp_word (stamp_of x)) d.1))
      (λ g. c.stamps_out e (omega arith) ∙ (sym stamp_word-unborn ∙ sym (ap (λ x. stamp_word (stamp_of x)) (none_past list e (omega arith)))));
  linked = relabelled key (m HEAD) (m NEXT) (m CODE) chains linked (is_carried list) (λ table e on. lt-ltb e (length list) (most table e on)) (λ table e low on. all table e low (ltb-true e (length list) on)) c.chained;
}

-- ---- the words while they are filled

not_yet : (b : Bool) → (b ≡ true → ⊥) → b ≡ false
not_yet true out = absurd (out refl)
not_yet false out = refl

unlinked : (key : Key) (words : List ℕ) (full table entry : ℕ) (f : Filling key words full table entry) (t e : ℕ) → (IsBelow table entry t e → ⊥) → f.linked t e ≡ false
unlinked key words full table entry f t e out = not_yet (f.linked t e) (λ on. out (f.most t e on).1)

none_below : (t e : ℕ) → IsBelow 0 0 t e → ⊥
none_below t e b = ⊎_elim (λ (l : t < 0). let r : ⊥ = omega arith in r) (λ (z : (t ≡ 0) × (e < 0)). let l = z.1 in let r : ⊥ = omega arith in r) b

not_below : (table i : ℕ) → IsBelow table i table i → ⊥
not_below table i b = ⊎_elim (λ (l : table < table). let r : ⊥ = omega arith in r) (λ (z : (table ≡ table) × (i < i)). let l = z.1 in let r : ⊥ = omega arith in r) b

later : (table i t e : ℕ) → IsBelow table i t e → IsBelow table (i + 1) t e
later table i t e b = ⊎_elim (λ (l : t < table). inl l) (λ (z : (t ≡ table) × (e < i)). let l = z.1 in inr (z.0, omega arith)) b

earlier : (table i t e : ℕ) → e ≢ i → IsBelow table (i + 1) t e → IsBelow table i t e
earlier table i t e ne b = ⊎_elim (λ (l : t < table). inl l) (λ (z : (t ≡ table) × (e < i + 1)). let l = z.1 in inr (z.0, omega arith)) b

before_it : (table i t e : ℕ) → t ≢ table → IsBelow table (i + 1) t e → IsBelow table i t e
before_it table i t e ne b = ⊎_elim (λ (l : t < table). inl l) (λ (z : (t ≡ table) × (e < i + 1)). absurd (ne z.0)) b

-- two cells are written, in this order
twice : (ns : List ℕ) (words after : List ℕ) (a k x b j y at next : ℕ) → length words ≡ 1 + whole ns → k < size ns a → j < size ns b → at ≡ start ns a + k → next ≡ start ns b + j → after ≡ set (set words at x) next y
    → (mem ns after ≡ write (write (mem ns words) a k x) b j y) × (length after ≡ 1 + whole ns)
twice ns words after a k x b j y at next wide low low' at_is next_is is =
    let once : List ℕ = set words (start ns a + k) x in let long : length once ≡ 1 + whole ns = length-set words (start ns a + k) x ∙ wide in
    let same : after ≡ set once (start ns b + j) y = is ∙ (λ i. set (set words (at_is i) x) (next_is i) y) in (
      ap (mem ns) same ∙ (mem-write ns once b j y long low' ∙ ap (λ (m : ℕ → ℕ → ℕ). write m b j y) (mem-write ns words a k x wide low)),
      ap length same ∙ (length-set once (start ns b + j) y ∙ long),
    )

pub entry_written : (key : Key) (words after : List ℕ) (i at next : ℕ) (d : Declared) → Filling key words i 0 0 → At key.carried.list i d → i < key.entries → d.unit.kind < 13 → at ≡ start (sizes key) CODE + i → next ≡ start (sizes key) STAMP + i
    → after ≡ set (set words at d.unit.body) next (stamp_word (Live d.unit.kind d.id)) → Filling key after (i + 1) 0 0
entry_written key words after i at next d f here low kind at_is next_is is =
    let w = twice (sizes key) words after CODE i d.unit.body STAMP i (stamp_word (Live d.unit.kind d.id)) at next f.wide low low at_is next_is is in record {
      wide = w.1;
      chains = f.chains;
      linked = f.linked;
      kinds = λ e x below there. dite (ℕ_discrete e i) (λ same. subst (λ (z : Declared). z.unit.kind < 13) (one_there key.carried.list e i x d same there here) kind) (λ apart. f.kinds e x (omega arith) there);
      carried = subst (λ (m : ℕ → ℕ → ℕ). CarriedTo key m f.chains (i + 1) f.linked) (sym w.0) (written_more key (mem (sizes key) words) f.chains i d f.linked here (λ table. unlinked key words i 0 0 f table i (none_below table i)) f.carried);
      most = f.most;
      all = f.all;
    }

pub entry_pushed : (key : Key) (words after : List ℕ) (table i bucket at next : ℕ) (d : Declared) → Filling key words (length key.carried.list) table i → At key.carried.list i d → i < length key.carried.list → i < key.entries → table < 4 → bucket_of d.unit.body table key.sizes.bits ≡ bucket
    → at ≡ start (sizes key) NEXT + next_cell key.entries table i → next ≡ start (sizes key) HEAD + head_cell key.sizes.bits table bucket
    → after ≡ set (set words at (get_or words next 0)) next (link_word i) → Filling key after (length key.carried.list) table (i + 1)
entry_pushed key words after table i bucket at next d f here low inside small code at_is next_is is =
    let ns = sizes key in let m : ℕ → ℕ → ℕ = mem ns words in let cell : ℕ = head_cell key.sizes.bits table bucket in
    let wide : bucket < 2 ^ key.sizes.bits = subst (λ (z : ℕ). z < 2 ^ key.sizes.bits) code (bucket_below d.unit.body table key.sizes.bits) in
    let room : cell < 4 * 2 ^ key.sizes.bits = cell_inside (2 ^ key.sizes.bits) table bucket small wide in
    let read : get_or words next 0 ≡ m HEAD cell = ap (λ (z : ℕ). get_or words z 0) next_is ∙ sym (mem-read ns words HEAD cell room) in
    let w = twice ns words after NEXT (next_cell key.entries table i) (m HEAD cell) HEAD cell (link_word i) at next f.wide (cell_inside key.entries table i small inside) room at_is next_is (is ∙ ap (λ (x : ℕ). set (set words at x) next (link_word i)) read) in record {
      wide = w.1;
      chains = pushed_chains f.chains table bucket i;
      linked = pushed_linked f.linked table i;
      kinds = f.kinds;
      carried = subst (λ (z : ℕ → ℕ → ℕ). CarriedTo key z (pushed_chains f.chains table bucket i) (length key.carried.list) (pushed_linked f.linked table i)) (sym w.0)
          (linked_more key m f.chains (length key.carried.list) i table bucket d f.linked here low small wide inside (unlinked key words (length key.carried.list) table i f table i (not_below table i)) code f.carried);
      most = λ t e on. dite (ℕ_discrete t table)
          (λ x. dite (ℕ_discrete e i)
          (λ y. (omega arith, inr (x, omega arith)))
          (λ y. let b = f.most t e (sym (set_in_away f.linked table i t e true (λ _ z. y z)) ∙ on) in (b.0, later table i t e b.1)))
          (λ x. let b = f.most t e (sym (set_in_away f.linked table i t e true (λ z _. x z)) ∙ on) in (b.0, later table i t e b.1));
      all = λ t e held below. dite (ℕ_discrete t table)
          (λ x. dite (ℕ_discrete e i)
          (λ y. set_in_here f.linked table i t e true x y)
          (λ y. set_in_away f.linked table i t e true (λ _ z. y z) ∙ f.all t e held (earlier table i t e y below)))
          (λ x. set_in_away f.linked table i t e true (λ z _. x z) ∙ f.all t e held (before_it table i t e x below));
    }

-- where a cell of a table of cells is
pub placed : (a b x y z : ℕ) → a ≡ b → x ≡ y → a + x + z ≡ b + (y + z)
placed a b x y z p q = omega arith

-- what is read off the list stands in it
pub at_read : (l list : List Declared) (i : ℕ) (x d : Declared) → l ≡ list → i < length list → x ≡ get_or l i d → At list i x
at_read l list i x d same low read = let h = there list i low in let g = at_nth list i h.0 d h.1 in subst (λ (z : Declared). At list i z) (sym g.1 ∙ (ap (λ (z : List Declared). get_or z i d) (sym same) ∙ sym read)) h.1

pub table_linked : (key : Key) (words : List ℕ) (table : ℕ) → Filling key words (length key.carried.list) table (length key.carried.list) → Filling key words (length key.carried.list) (table + 1) 0
table_linked key words table f = record {
  wide = f.wide;
  chains = f.chains;
  linked = f.linked;
  kinds = f.kinds;
  carried = f.carried;
  most = λ t e on. let b = f.most t e on in (b.0, ⊎_elim (λ (l : t < table). inl (omega arith)) (λ (z : (t ≡ table) × (e < length key.carried.list)). let l = z.0 in inl (omega arith)) b.1);
  all = λ t e held below. f.all t e held (⊎_elim (λ (l : t < table + 1). dite (dec_lt t table) (λ x. inl x) (λ x. inr (omega arith, held))) (λ (z : (t ≡ table + 1) × (e < 0)). let l = z.1 in absurd (omega arith)) below);
}

filled_opens : (key : Key) (words : List ℕ) (f : Filling key words (length key.carried.list) 4 0) → Opened key (mem (sizes key) words) f.chains
filled_opens key words f = carried_all key (mem (sizes key) words) f.chains f.linked (λ table e on. (f.most table e on).0) (λ table e low held. f.all table e held (inl low)) f.carried

kinds_all : (key : Key) (words : List ℕ) → Filling key words (length key.carried.list) 4 0 → All (λ (d : Declared). d.unit.kind < 13) key.carried.list
kinds_all key words f n d low = let h = there key.carried.list n low in let g = at_nth key.carried.list n h.0 d h.1 in subst (λ (z : Declared). z.unit.kind < 13) (sym g.1) (f.kinds n h.0 low h.1)

begins : (limits : Limits) (carried : Opening) → start_refusal limits carried ≡ None → CanBegin (key_of limits carried)
begins limits carried none = record { entries = refl; room = grind (arith, nat_tests, none); ids = grind (arith, nat_tests, none) }

-- the rule holds of the words that are filled
pub fills_table : (limits : Limits) (carried : Opening) (key : Key) (words : List ℕ) → key ≡ key_of limits carried → start_refusal limits carried ≡ None → IsInRange limits → IsOpening carried → Filling key words (length key.carried.list) 4 0
    → Kept key (opening words [] (first key))
fills_table limits carried key words is none range opens f = let room = subst CanBegin (sym is) (begins limits carried none) in
    opens_table key words f.chains
    record {
      sizes = subst (λ (z : Key). IsInRange z.sizes) (sym is) range;
      opening = subst (λ (z : Key). IsOpening z.carried) (sym is) opens;
      ids = room.ids;
      kinds = kinds_all key words f;
      room = room.room;
      entries = room.entries;
    }
    f.wide (filled_opens key words f)
