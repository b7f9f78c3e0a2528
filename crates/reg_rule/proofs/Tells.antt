-- What the loads of the log and of a stamp tell (kinds 1, 2 and 7).
use Rattle.std.proofs.Common.{◌≡◌, ℕ, ◌+◌, ◌^◌, ◌<◌, ◌≤◌, inl, inr, ⊎_elim, Bool, true, false, true≢false, if◌then◌else◌, is_some, Option, None, Some, List, ◌++◌, take, length, length-append, sym, refl, ap, ◌∙◌, subst, lt_of_not-le, arith}
use mathlib.Core.Logic.{dite}
use native.Mathlib.Decide.{dec_le}
use Rattle.std.proofs.lemmas.List.{take-append-le}
use Rattle.iscc_header.specs.declared.unit.Unit64.{Unit64}
use Rattle.reg_model.specs.Opening.{IsOpening}
use Rattle.reg_words.specs.declared.word.StampWord.{StampWord}
use Rattle.reg_words.specs.declared.word.StampWord.TheVariants.{Unborn, Live, Dead}
use Rattle.reg_rule.specs.declared.view.Key.{Key}
use Rattle.reg_rule.specs.declared.view.Place.{Place}
use Rattle.reg_rule.specs.declared.view.View.{View}
use Rattle.reg_rule.specs.Log.{At, updates, IsDecl, IsWd, Declares, IsLiveIn, place_of, record_at}
use Rattle.reg_rule.specs.inner.World.{Use, free, in_hand, holds}
use Rattle.reg_rule.specs.inner.LogParts.{LogPart}
use Rattle.reg_rule.specs.inner.SeatParts.{Saw}
use Rattle.reg_rule.specs.inner.Entries.{UsesPart, StampsPart, StampFits, HasKind}
use Rattle.reg_rule.specs.inner.Rule.{KeyPart}
use Rattle.reg_rule.specs.Steps.{SeenFits, IsServed, RowsServed, FitsBits, LooksLive}
use Rattle.reg_rule.specs.inner.AccountParts.{IsAnswered}
use Rattle.reg_rule.specs.inner.World.{World}
use Rattle.reg_rule.specs.inner.Rule.{Inv}
use Rattle.reg_rule.proofs.RowsEnter.{has_head}
use Rattle.std.proofs.lemmas.List.{length-map}
use Rattle.reg_model.specs.declared.reply.Row.{Row}
use Rattle.reg_model.specs.Rows.{is_accepted, update_of}
use lib.ListN.{get_elem?}
use Rattle.atomic_table.proofs.Lists.{at_longer}
use Rattle.reg_rule.proofs.Shows.{at_inside, at_below, take_at, length_take}
use Rattle.reg_rule.proofs.Once.{IsLawfulLog, declared_below, wd_declares, wd_once, wd_entry}
use mathlib.Core.Option.{some}
use Rattle.reg_model.specs.declared.update.Update.{Update}
use Rattle.reg_model.specs.declared.update.Update.TheVariants.{Decl, Wd}
use Rattle.reg_words.specs.Packing.{FitsLog}

-- the numbers of a record
pub record_fits : (key : Key) (cells : ℕ → ℕ) (log : List Place) → KeyPart key → LogPart key cells log → (n : ℕ) (p : Place) → At log n p → FitsLog (record_at key.carried.base n p.update p.entry)
record_fits key cells log ok part n p at = by_update p.update refl where
  entry_low : p.entry < 1048576
  entry_low = let a = part.entries n p at in let b = ok.sizes.entries.1 in let c = ok.entries in omega arith

  by_update : (u : Update) → p.update ≡ u → FitsLog (record_at key.carried.base n u p.entry)
  by_update (Decl unit) is = (part.kinds n unit p.entry (at ∙ ap (λ (u : Update). some (place_of u p.entry)) is), entry_low, (let a = at_inside log n p at in let b = part.short in let c = ok.ids in omega arith))
  by_update (Wd id) is = let wd : IsWd log n id p.entry = at ∙ ap (λ (u : Update). some (place_of u p.entry)) is in let d = wd_declares key.carried log n id p.entry part.lawful wd in
      let low = declared_below key.carried log id p.entry d.0 ok.opening d.1 in (entry_low, (let b = part.short in let c = ok.ids in omega arith))

-- kinds 1 and 2
pub seen_fits : (key : Key) (cells : ℕ → ℕ) (log : List Place) (id : ℕ) (v : View) → KeyPart key → LogPart key cells log → Saw log id v → SeenFits key v.log
seen_fits key cells log id v ok part saw = record {
  entries = λ n p at. part.entries n p (whole n p at);
  kinds = λ n unit entry at. part.kinds n unit entry (whole n _ at);
  lawful = λ d i entry at. let live = part.lawful d i entry (whole d _ at) in let inside = at_inside v.log d _ at in
      let same : take d log ≡ take d v.log = ap (take d) saw.1 ∙ take-append-le d v.log saw.0 (omega arith) in
      (live.0, subst (λ (l : List Place). IsLiveIn key.carried l i live.0 entry) same live.1);
  records = λ n p at. record_fits key cells log ok part n p (whole n p at);
  ids = ok.ids;
  room = let a = part.short in let b : length log ≡ length (v.log ++ saw.0) = ap length saw.1 in let c : length (v.log ++ saw.0) ≡ length v.log + length saw.0 = length-append v.log saw.0 in omega arith;
} where
  whole : (n : ℕ) (p : Place) → At v.log n p → At log n p
  whole n p at = subst (λ (l : List Place). At l n p) (sym saw.1) (at_longer v.log saw.0 n p at)

-- the rows of a seat, which stand in the account of its session
pub rows_served : (key : Key) (m : ℕ → ℕ → ℕ) (w : World) (views : List View) (id : ℕ) (v : View) → Inv key m w views → get_elem? views id ≡ some v → v.key ≡ key → 0 < length v.accounts → RowsServed v
rows_served key m w views id v i at knows one j row there =
    let head = has_head v.accounts one in let owned = i.owns id v at 0 head.0 head.1 in
    let f = i.accounts.fits (head.0).number j row owned.below (subst (λ (l : List Row). At l j row) (head.3 ∙ sym owned.rows_are) there) in
    let a = f.answered in let all : length (updates w.log) ≡ length w.log = length-map w.log (λ (q : Place). q.update) in
    let long : length (take a.place (updates w.log)) ≡ a.place = length_take (updates w.log) a.place a.within in
    subst (λ (z : Key). IsServed z row) (sym knows) (record {
      log = take a.place (updates w.log);
      within = by_accepted (is_accepted row) refl a f.made all long;
      point = (let p = a.point in omega arith);
      reply = a.reply;
    }) where
      -- an accepted row made the update of its place, so this is one of the log
      by_update : (o : Option Update) → update_of row.call row.reply ≡ o → is_some o ≡ true → (update : Update) × (update_of row.call row.reply ≡ Some update)
      by_update None is full = absurd (true≢false (sym full))
      by_update (Some update) is full = (update, is)

      by_accepted : (b : Bool) → is_accepted row ≡ b → (a : IsAnswered key.sizes key.carried (updates w.log) row) → ((p : ℕ) (update : Update) → update_of row.call row.reply ≡ Some update → row.point ≡ key.carried.base + p + 1 → At (updates w.log) p update)
          → length (updates w.log) ≡ length w.log → length (take a.place (updates w.log)) ≡ a.place → length (take a.place (updates w.log)) + (if is_accepted row then 1 else 0) ≤ key.sizes.log
      by_accepted true is a made all long =
          let one : (if◌then◌else◌ {A = ℕ} (is_accepted row) 1 0) ≡ 1 = ap (λ (b : Bool). if◌then◌else◌ {A = ℕ} b 1 0) is in
          let u = by_update (update_of row.call row.reply) refl is in let p = a.point in
          let inside = at_inside (updates w.log) a.place u.0 (made a.place u.0 u.1 (omega arith)) in let short = i.log.short in omega arith
      by_accepted false is a made all long =
          let none : (if◌then◌else◌ {A = ℕ} (is_accepted row) 1 0) ≡ 0 = ap (λ (b : Bool). if◌then◌else◌ {A = ℕ} b 1 0) is in
          let short = i.log.short in let low = a.within in omega arith

-- kind 7: the numbers of a stamp
pub stamp_bits : (key : Key) (cells logs : ℕ → ℕ) (log : List Place) (returned entry : ℕ) (uses : ℕ → Use) (stamps : ℕ → StampWord) → KeyPart key → LogPart key logs log → UsesPart key log returned uses
    → StampsPart key cells log returned uses stamps → entry < key.entries → FitsBits (stamps entry)
stamp_bits key cells logs log returned entry uses stamps ok log_part use_part part inside = by_use (uses entry) (stamps entry) refl (part.fits entry inside) (part.kinds entry inside) where
  id_low : (id e : ℕ) (unit : Unit64) → Declares key.carried log id unit e → id < 2 ^ 34
  id_low id e unit dec = let a = declared_below key.carried log id e unit ok.opening dec in let b = log_part.short in let c = ok.ids in omega arith

  wd_low : (d id e : ℕ) → IsWd log d id e → (id < 2 ^ 34) × (d < 2 ^ 22)
  wd_low d id e wd = let dec = wd_declares key.carried log d id e log_part.lawful wd in let a = at_inside log d _ wd in let b = log_part.short in let c = ok.sizes.log.1 in (id_low id e dec.0 dec.1, omega arith)

  by_use : (u : Use) (s : StampWord) → uses entry ≡ u → StampFits key.carried log returned entry u s → HasKind s → FitsBits s
  by_use u Unborn is h k = tt
  by_use (holds id) (Live kind other) is h k = let mine = use_part.holding id entry inside is in (k, subst (λ (z : ℕ). z < 2 ^ 34) (sym h.0) (id_low id entry mine.0.0 mine.0.1))
  by_use (free j) (Live kind other) is h k = absurd h
  by_use (in_hand seat i) (Live kind other) is h k = absurd h
  by_use (holds id) (Dead kind other d) is h k = let low = wd_low d id entry h.2 in (k, subst (λ (z : ℕ). z < 2 ^ 34) (sym h.0) low.0, low.1)
  by_use (free j) (Dead kind other d) is h k = let low = wd_low d other entry h.0 in (k, low.0, low.1)
  by_use (in_hand seat i) (Dead kind other d) is h k = let low = wd_low d other entry h.0 in (k, low.0, low.1)

-- kind 7: what looks live at a front is live there
pub nothing_else : (key : Key) (cells : ℕ → ℕ) (log : List Place) (returned k entry : ℕ) (uses : ℕ → Use) (s : StampWord)
    → IsOpening key.carried → IsLawfulLog key.carried log → UsesPart key log returned uses → returned ≤ k → k ≤ length log → entry < key.entries
    → StampFits key.carried log returned entry (uses entry) s
    -- the place below the front is complete
    → ((n id kind : ℕ) → n + 1 ≡ k → IsWd log n id entry → uses entry ≡ holds id → s ≡ Live kind id → ⊥)
    → (id kind : ℕ) → LooksLive k s id kind → id < key.carried.base + k → (unit : Unit64) × IsLiveIn key.carried (take k log) id unit entry × (kind ≡ unit.kind)
nothing_else key cells log returned k entry uses s ok law use_part low inside room fits dead id kind looks below = by_use (uses entry) s refl refl fits looks where
  declares_below : (unit : Unit64) → Declares key.carried log id unit entry → Declares key.carried (take k log) id unit entry
  declares_below unit dec = ⊎_elim (λ (c : At key.carried.list entry (record { id = id; unit = unit })). inl c)
      (λ (t : (n : ℕ) × (id ≡ key.carried.base + n) × IsDecl log n unit entry). inr (t.0, t.1, at_below log k t.0 _ (let e = t.1 in omega arith) t.2)) dec

  len : length (take k log) ≡ k
  len = length_take log k inside

  -- each withdrawal of the id is at the front or above
  kept : ((d e : ℕ) → IsWd log d id e → k ≤ d) → (d e : ℕ) → IsWd (take k log) d id e → length (take k log) ≤ d
  kept all d e wd = let a = all d e (take_at log k d _ wd) in let b : length (take k log) ≡ k = length_take log k inside in omega arith

  by_use : (u : Use) (z : StampWord) → uses entry ≡ u → s ≡ z → StampFits key.carried log returned entry u z → LooksLive k z id kind → (unit : Unit64) × IsLiveIn key.carried (take k log) id unit entry × (kind ≡ unit.kind)
  by_use u Unborn is same h l = absurd l
  by_use (free j) (Live kind' other) is same h l = absurd h
  by_use (in_hand seat i) (Live kind' other) is same h l = absurd h
  by_use (holds x) (Live kind' other) is same h l =
      let mine : uses entry ≡ holds id = is ∙ ap holds (sym h.0 ∙ l.0) in let dec = (use_part.holding id entry room mine).0 in (
        dec.0,
        record {
          declares = declares_below dec.0 dec.1;
          kept = kept (λ d e wd. let last = h.2 d e (subst (λ (y : ℕ). IsWd log d y e) (sym l.0 ∙ h.0) wd) in
              let here : e ≡ entry = wd_entry key.carried log d id e entry dec.0 ok law wd dec.1 in
              at_least d (λ at. dead d id kind' at (subst (λ (y : ℕ). IsWd log d id y) here wd) mine (same ∙ ap (Live kind') l.0)) last);
        },
        sym l.1 ∙ h.1 dec.0 (subst (λ (y : ℕ). Declares key.carried log y dec.0 entry) (sym l.0 ∙ h.0) dec.1),
      ) where
        at_least : (d : ℕ) → (d + 1 ≡ k → ⊥) → d + 1 ≡ length log → k ≤ d
        at_least d n last = dite (dec_le k d) (λ le. le) (λ small. let less : d < k = lt_of_not-le small in let most : k ≤ length log = inside in absurd (n (omega arith)))
  by_use (holds x) (Dead kind' other d) is same h l =
      let mine : uses entry ≡ holds id = is ∙ ap holds (sym h.0 ∙ l.0) in let dec = (use_part.holding id entry room mine).0 in
      let wd : IsWd log d id entry = subst (λ (y : ℕ). IsWd log d y entry) (sym h.0 ∙ l.0) h.2 in (
        dec.0,
        record {
          declares = declares_below dec.0 dec.1;
          kept = kept (λ c e w. let one = wd_once key.carried log d c id entry e law wd w in let a = l.2 in omega arith);
        },
        sym l.1 ∙ h.1 dec.0 (subst (λ (y : ℕ). Declares key.carried log y dec.0 entry) (sym l.0 ∙ h.0) dec.1),
      )
  by_use (free j) (Dead kind' other d) is same h l = let a = h.1 in let b = l.2 in absurd (omega arith)
  by_use (in_hand seat i) (Dead kind' other d) is same h l = let a = h.1 in let b = l.2 in absurd (omega arith)
