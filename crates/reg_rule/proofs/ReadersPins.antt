-- For readers: pins, cursors and what a snapshot needs, by the rule.
use Rattle.std.proofs.Common.{◌≡◌, ℕ, ◌/◌, ◌*◌, ◌-◌, ◌^◌, ◌<◌, inl, inr, ⊎_elim, true, List, [], ◌∷◌, take, Some, sym, refl, ap, ◌∙◌, subst, lt_of_not-le, arith}
use Rattle.std.proofs.Math.Nat.{mod-lt}
use Rattle.std.proofs.lemmas.Nat.{pow_pos}
use Rattle.std.proofs.lemmas.List.{take-append-le}
use mathlib.Core.Logic.{dite}
use native.Mathlib.Decide.{dec_le, ℕ_discrete}
use Rattle.mih_plan.specs.Buckets.{bucket_of}
use Rattle.reg_words.specs.declared.word.SweepWord.{SweepWord}
use Rattle.reg_words.specs.Memory.{HEAD, NEXT}
use Rattle.reg_rule.specs.declared.view.Key.{Key}
use Rattle.reg_rule.specs.declared.view.Place.{Place}
use Rattle.reg_rule.specs.declared.view.Cursor.{Cursor}
use Rattle.reg_rule.specs.declared.view.View.{View}
use Rattle.reg_rule.specs.Log.{IsLiveIn}
use Rattle.reg_rule.specs.Links.{link_word}
use Rattle.reg_rule.specs.Chains.{Member, LeadsThrough, LeadsThrough}
use Rattle.reg_rule.specs.ReadersLog.{IsSeatOf, given_back}
use Rattle.reg_rule.specs.ReadersChains.{next_link}
use Rattle.reg_rule.specs.ReadersPins.{PinsStand, StandsApart, CursorStands, CursorsStand, NeededStand}
use Rattle.reg_rule.specs.inner.World.{World}
use Rattle.reg_rule.specs.inner.ChainParts.{Names, after, next_in, head_cell}
use Rattle.reg_rule.specs.inner.Walks.{IsLoose, CursorFits, from}
use Rattle.reg_rule.specs.inner.Rule.{Inv}
use Rattle.reg_rule.proofs.Chained.{test_same, test_apart, from_link, next_names}
use Rattle.reg_rule.proofs.Shows.{declares_more}
use Rattle.reg_rule.proofs.Once.{wd_declares, wd_once}
use Rattle.reg_rule.proofs.ReadersGiven.{above, returned_below, given_inside, declared_inside}
use Rattle.reg_rule.proofs.ReadersCuts.{unlinked_cut, cut_begun}
use Rattle.reg_rule.proofs.ReadersChains.{leads_once, chain_is, the_chain, in_chain}
use Rattle.reg_rule.proofs.ReadersReach.{live_held, relied}

-- what comes behind an entry is what its next word leads through
after_led : (next : ℕ → ℕ) (word e : ℕ) (l : List ℕ) → LeadsThrough next word l → Member e l → LeadsThrough next (next e) (after e l)
after_led next word e [] h there = absurd there
after_led next word e (x ∷ xs) h there = dite (ℕ_discrete x e)
    (λ same. subst (LeadsThrough next (next e)) (sym (test_same x e xs (after e xs) same)) (subst (λ (z : ℕ). LeadsThrough next (next z) xs) same h.1))
    (λ apart. subst (LeadsThrough next (next e)) (sym (test_apart x e xs (after e xs) apart)) (after_led next (next x) e xs h.1 (⊎_elim (λ (is : e ≡ x). absurd (apart (sym is))) (λ t. t) there)))

from_led : (next : ℕ → ℕ) (start word : ℕ) (l : List ℕ) → LeadsThrough next start l → Names word l → LeadsThrough next word (from word l)
from_led next start word l h names = ⊎_elim
    (λ (z : word ≡ 0). subst (λ (x : ℕ). LeadsThrough next x (from x l)) (sym z) refl)
    (λ (t : (e : ℕ) × (word ≡ link_word e) × Member e l). subst (λ (x : ℕ). LeadsThrough next x (from x l)) (sym t.1)
    (subst (LeadsThrough next (link_word t.0)) (sym (from_link t.0 l)) (refl, after_led next start t.0 l h t.2)))
    names

module _ (key : Key) (m : ℕ → ℕ → ℕ) (w : World) (views : List View) (i : Inv key m w views) where
  -- the sentence on pins
  pub pins_stand : PinsStand m views
  pins_stand = record {
    word = λ seat k v a at there. i.pinned seat v at k a there;
    seen = λ seat v at. (i.fits_pin seat v at).covers;
    relied = λ seat k v at relies. (i.fits_pin seat v at).fronts k relies;
  }

  module _ (seat : ℕ) (v : View) (c : Cursor) (at : IsSeatOf views seat v) (is : v.cursor ≡ Some c) where
    abbrev chain : List ℕ
    chain = w.chains c.table c.bucket

    abbrev word : ℕ
    word = next_in key.entries (m NEXT) c.table c.entry

    fits : CursorFits key (m NEXT) w.log w.chains w.linked w.begun w.returned w.mark w.freed v.pin v.accounts v.visited c
    fits = i.cursors seat v at c is

    abbrev Loose : Type 0
    Loose = IsLoose key c w.log word chain (w.linked c.table) w.begun w.returned w.mark w.freed v.pin v.accounts

    leads : LeadsThrough (next_in key.entries (m NEXT) c.table) (m HEAD (head_cell key.sizes.bits c.table c.bucket)) chain
    leads = i.chains.leads c.table c.bucket fits.table fits.bucket

    apart : Loose → StandsApart key m views w.log w.word (given_back w.word views) v c chain
    apart loose = let r = loose.reclaimed in let dec = wd_declares key.carried w.log r.0 r.1 c.entry i.log.lawful r.2.withdraws in record {
      place = r.0;
      id = r.1;
      unit = dec.0;
      withdrawn = r.2.withdraws;
      has = record { declared = dec.1; kept = λ e x wd. let one = wd_once key.carried w.log r.0 e r.1 c.entry x i.log.lawful r.2.withdraws wd in let kept = r.2.kept in above key m w views i e r.1 x wd (omega arith) };
      cut = unlinked_cut key m w views i r.0 r.1 c.entry c.table fits.table r.2 loose.cut;
      leads_back = loose.leads_back;
      pinned = λ limbo. loose.pinned w.word.mark (i.reclaimed.marked limbo);
      unscanned = λ limbo other n u h there holds own. dite (dec_le h.freed n) (λ le. le)
          (λ not. let less : n < h.freed = lt_of_not-le not in let free = (i.scans other u there h holds).free_of n less in let late = loose.unscanned n own in
          let f = i.at_word other u there h holds in let limbo_too : h.word.limbo ≡ true = ap (λ (s : SweepWord). s.limbo) (sym f.word_is) ∙ limbo in
          let a = f.limbo limbo_too in let b : w.word.place ≡ h.word.place = ap (λ (s : SweepWord). s.place) f.word_is in let d = (i.sweep.limbo limbo).0 in absurd (omega arith));
    }

    names : Names word chain
    names = ⊎_elim (λ there. next_names (next_in key.entries (m NEXT) c.table) _ c.entry chain leads there) (λ (loose : Loose). loose.leads_back) fits.stands

    pub rest_led : LeadsThrough (next_link key m c.table) (next_link key m c.table c.entry) (from word chain)
    rest_led = from_led _ _ word chain leads names

    pub cursor_stands : CursorStands key m views w.log w.word (given_back w.word views) v c
    cursor_stands = record {
      pinned = (i.fits_pin seat v at).cursor_pinned c is;
      table = fits.table;
      bucket = fits.bucket;
      chain = chain;
      chain_is = chain_is key m w views i c.table c.bucket fits.table fits.bucket;
      stands = ⊎_elim (λ there. inl there) (λ (loose : Loose). inr (apart loose)) fits.stands;
      rest = from word chain;
      leads = rest_led;
      once = fits.once;
    }

  -- the sentence on cursors
  pub cursors_stand : CursorsStand key m views w.log w.word (given_back w.word views)
  cursors_stand = cursor_stands

  bucket_low : (body table : ℕ) → bucket_of body table key.sizes.bits < 2 ^ key.sizes.bits
  bucket_low body table = mod-lt (body / 2 ^ (48 - 16 * table)) (pow_pos key.sizes.bits)

  -- the sentence on what a snapshot needs
  pub needed_stand : NeededStand key m views w.log w.word (given_back w.word views)
  needed_stand = record {
    linked = λ seat k id entry table v unit chain at snap live tl is. let held = live_held key m w views i seat k id entry v unit at snap live in
        let dec = (declares_more key.carried w.log k id entry unit live.declares) in let el = declared_inside key m w views i id entry unit dec in
        subst (Member entry) (sym (the_chain key m w views i table (bucket_of unit.body table key.sizes.bits) chain tl (bucket_low unit.body table) is))
        (in_chain key m w views i table (bucket_of unit.body table key.sizes.bits) entry unit.body tl el (i.links.held table id entry tl el held.0 held.1) (i.codes.bodies id entry unit held.0 dec) refl);
    walked = λ seat k id entry v unit c rest at snap live is bucket led. let s = i.saw seat v at in let r = relied key m w views i seat k v at (inr snap) in
        let same : take k w.log ≡ take k v.log = ap (take k) s.1 ∙ take-append-le k v.log s.0 r.1 in
        let one = leads_once _ _ rest (from (next_in key.entries (m NEXT) c.table c.entry) (w.chains c.table c.bucket)) led (rest_led seat v c at is) in
        ⊎_elim (λ met. inl met) (λ ahead. inr (subst (Member entry) (sym one) ahead)) (i.covers seat v at c k id entry unit is snap (subst (λ (l : List Place). IsLiveIn key.carried l id unit entry) same live) bucket);
    fronts = λ seat k table d v at relies cut. let r = relied key m w views i seat k v at relies in let low = r.0 in let b = cut_begun key m w views i table d cut in omega arith;
    ahead = λ table d cut. let b = cut_begun key m w views i table d cut in let s = i.sweep.seen in omega arith;
    reclaimed = λ seat k d id entry v at relies wd low. let r = relied key m w views i seat k v at relies in let above_begun = r.0 in let order = i.sweep.order in let back = returned_below key m w views i d id entry wd low in omega arith;
    given_within = given_inside key m w views i;
  }
