-- For readers: no step loses a place that its seat has seen.
use Rattle.std.proofs.Common.{◌≡◌, ◌≢◌, ℕ, ⊎_elim, Bool, true, false, List, [], ◌∷◌, Some, sym, refl, ap, ◌∙◌, append-nil}
use mathlib.Core.Logic.{dite}
use native.Mathlib.Decide.{ℕ_discrete}
use Rattle.reg_rule.specs.declared.told.Told.{Told}
use Rattle.reg_rule.specs.declared.told.Told.TheVariants.{Links, Sweeps}
use Rattle.reg_rule.specs.declared.view.Holding.{Holding}
use Rattle.reg_rule.specs.declared.view.View.{View}
use Rattle.reg_rule.specs.Links.{link_word}
use Rattle.reg_rule.specs.Conditions.{MaySwapTake, MayLoadPut, MayLoadHead, MayLoadNext, MayStorePin, MaySwapSweep}
use Rattle.reg_rule.specs.Moves.{TellsHits, first_met, none_met, next_met, walked}
use Rattle.reg_rule.specs.Steps.{PutLoaded, TakeSwapped, ChainLoaded, HeadSought, HeadTells, WayMoves, NextTells, PinStored, SweepSwapped}
use Rattle.reg_rule.specs.ReadersSteps.{Lengthens, OnlyLengthens, StepsLengthen}
use Rattle.reg_rule.proofs.ReadersOneLog.{load_keeps, exchange_sees}

-- a view that is another one, with the same places seen
keeps : (v w u : View) → w ≡ u → u.log ≡ v.log → Lengthens v w
keeps v w u is same = ([], ap (λ (x : View). x.log) is ∙ (same ∙ sym (append-nil v.log)))

tells_keeps : (told : Told) (v w u : View) → TellsHits told u w → u.log ≡ v.log → Lengthens v w
tells_keeps told v w u tells same = ([], ap (λ (x : View). x.log) tells.2 ∙ (same ∙ sym (append-nil v.log)))

chain_keeps : (told : Told) (table bucket found entries : ℕ) (visits : ℕ → View) (ends v w : View) → ChainLoaded told table bucket found entries visits ends w → ((e : ℕ) → (visits e).log ≡ v.log) → ends.log ≡ v.log → Lengthens v w
chain_keeps told table bucket found entries visits ends v w tells visit end = dite (ℕ_discrete found 0)
    (λ none. tells_keeps told v w ends (tells.ends_at none).0 end)
    (λ more. let t = tells.comes_to more in tells_keeps told v w (visits t.0) t.3 (visit t.0))

put_keeps : (told : Told) (found : ℕ) → OnlyLengthens (MayLoadPut told) (λ v w. PutLoaded told v found w)
put_keeps Sweeps found v w may tells = keeps v w _ (tells.swept refl).0 refl
put_keeps told found v w may tells = let t = may.1 in dite (ℕ_discrete found t.0)
    (λ same. keeps v w _ (tells.empty t.0 (λ e. absurd (cc)) t.1 same).view refl)
    (λ apart. keeps v w _ (tells.room t.0 (λ e. absurd (cc)) t.1 apart).1 refl)

take_keeps : (old new found : ℕ) → OnlyLengthens (MaySwapTake old new) (λ v w. TakeSwapped old v found w)
take_keeps old new found v w may tells = dite (ℕ_discrete found old)
    (λ won. let t = may.2 in keeps v w _ (tells.won t.0 t.1 t.2 won).0 refl)
    (λ lost. keeps v w _ (tells.lost lost).0 refl)

sought_keeps : (table entry found : ℕ) (v w : View) → HeadSought table entry v found w → Lengthens v w
sought_keeps table entry found v w tells = dite (ℕ_discrete found (link_word entry))
    (λ first. keeps v w _ (tells.first first) refl)
    (λ ahead. keeps v w _ (tells.ahead ahead).5 refl)

head_keeps : (told : Told) (table bucket found : ℕ) → OnlyLengthens (MayLoadHead told table bucket) (λ v w. HeadTells told table bucket v found w)
head_keeps Links table bucket found v w may tells = keeps v w _ tells refl
head_keeps Sweeps table bucket found v w may tells = let s = may.1 in let seeks = s.4 in sought_keeps table s.2 found v w (tells s.0 s.1 s.2 seeks.holding seeks.withdraws)
head_keeps told table bucket found v w may tells = chain_keeps told table bucket found v.key.entries (first_met told v table bucket) (none_met told v) v w tells (λ e. refl) refl

way_keeps : (table at entry found : ℕ) (ahead : List ℕ) (v w : View) → WayMoves table at entry ahead v found w → Lengthens v w
way_keeps table at entry found [] v w tells = keeps v w _ tells.1 refl
way_keeps table at entry found (e ∷ ahead) v w tells = keeps v w _ tells.2 refl

next_keeps : (told : Told) (table entry found : ℕ) → OnlyLengthens (MayLoadNext told table entry) (λ v w. NextTells told table entry v found w)
next_keeps Sweeps table at found v w may tells = let s = may.2 in let h : Holding = s.0 in let seeks = s.4 in let entry : ℕ = s.2 in let t = tells h s.1 entry seeks.holding seeks.withdraws in dite (ℕ_discrete at entry)
    (λ here. keeps v w _ (t.behind here) refl)
    (λ apart. ⊎_elim (λ here. absurd (apart here)) (λ (way : (ahead : List ℕ) × (h.way ≡ Some (record { table = table; entry = at; ahead = ahead }))). way_keeps table at entry found way.0 v w (t.way apart h way.0 seeks.holding way.1)) s.5)
next_keeps told table at found v w may tells = let c = may.2 in let t = tells c.0 c.1 in chain_keeps told c.0.table c.0.bucket found v.key.entries (next_met v c.0) (walked v) v w t (λ e. refl) refl

pin_keeps : (told : Told) (new : ℕ) → OnlyLengthens (MayStorePin told new) (PinStored told new)
pin_keeps told new v w may tells = dite (ℕ_discrete v.pin 0)
    (λ none. keeps v w _ (tells.pins none) refl)
    (λ pinned. dite (ℕ_discrete new 0)
    (λ none. keeps v w _ (tells.unpins pinned none) refl)
    (λ kept. tells_keeps told v w _ (tells.keeps pinned kept) refl))

sweep_keeps : (told : Told) (old new found : ℕ) → OnlyLengthens (MaySwapSweep old new) (λ v w. SweepSwapped told old v found w)
sweep_keeps told old new found v w may tells = dite (ℕ_discrete found old)
    (λ won. keeps v w _ (tells.won won).0 refl)
    (λ lost. by_held tells.word.held refl lost) where
      by_held : (b : Bool) → tells.word.held ≡ b → found ≢ old → Lengthens v w
      by_held true is lost = keeps v w _ (tells.held is).0 refl
      by_held false is lost = keeps v w _ (tells.moved lost is).0 refl

pub steps_lengthen : StepsLengthen
steps_lengthen = record {
  load_log = λ told place found v w may tells. load_keeps told place found v w may tells;
  swap_log = λ place old new found p v w may tells. let t = exchange_sees place found p v w tells in (t.0 ∷ [], t.1);
  load_code = λ told entry found v w may tells. tells_keeps told v w _ tells.view refl;
  store_note = λ place new v w may tells. keeps v w _ tells refl;
  swap_birth = λ entry old new v w may tells. keeps v w _ tells refl;
  swap_death = λ entry old new v w may tells. keeps v w _ tells refl;
  load_stamp = λ told entry found v w may tells. tells_keeps told v w _ tells.view refl;
  store_held = λ new v w may tells. keeps v w _ tells refl;
  load_take = λ found v w may tells. keeps v w _ tells.view refl;
  load_put = put_keeps;
  load_give = λ place found v w may tells. keeps v w _ (tells.view may.0 may.1 may.2) refl;
  swap_take = take_keeps;
  load_head = head_keeps;
  store_next = λ table new v w may tells. keeps v w _ tells refl;
  swap_head = λ table bucket old new found v w may tells. dite (ℕ_discrete found old) (λ won. keeps v w _ (tells.won won) refl) (λ lost. keeps v w _ (tells.lost lost) refl);
  load_next = next_keeps;
  store_pin = pin_keeps;
  load_pin = λ seat found v w may tells. keeps v w _ tells.view refl;
  swap_sweep = sweep_keeps;
  store_sweep = λ told new word v w may tells. keeps v w _ tells refl;
  cut_head = λ table bucket old new found v w may tells. dite (ℕ_discrete found old) (λ won. keeps v w _ (tells.won won) refl) (λ lost. keeps v w _ (tells.lost lost).5 refl);
  cut_next = λ table entry old new found v w may tells. keeps v w _ tells.view refl;
  store_give = λ place new v w may tells. keeps v w _ tells refl;
  store_put = λ new v w may tells. keeps v w _ tells refl;
}
