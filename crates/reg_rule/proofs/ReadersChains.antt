-- For readers: each bucket has its chain, by the rule.
use Rattle.std.proofs.Common.{◌≡◌, ℕ, ◌^◌, ◌<◌, ◌⊎◌, inl, inr, ⊎_elim, Bool, true, false, true≢false, List, [], ◌∷◌, Option, Some, None, sym, refl, ap, ◌∙◌, subst, arith}
use Rattle.std.specs.Prelude.{IsSome}
use Rattle.mih_plan.specs.Buckets.{bucket_of}
use Rattle.reg_words.specs.Memory.{CODE}
use Rattle.reg_rule.specs.declared.view.Key.{Key}
use Rattle.reg_rule.specs.declared.view.View.{View}
use Rattle.reg_rule.specs.Log.{IsWd}
use Rattle.reg_rule.specs.Chains.{Member, LeadsThrough, LeadsThrough}
use Rattle.reg_rule.specs.ReadersLog.{given_back}
use Rattle.reg_rule.specs.ReadersChains.{IsChain, LinksDeclaration, LinksHand, ChainsStand, IsCutAt, next_link, head_link}
use Rattle.reg_rule.specs.inner.World.{World, Use, free, in_hand, holds}
use Rattle.reg_rule.specs.inner.Rule.{Inv}
use Rattle.reg_rule.proofs.Chained.{link_apart, link_same}
use Rattle.reg_rule.proofs.ReadersGiven.{has_held, held_has, not_returned}
use Rattle.reg_rule.proofs.ReadersCuts.{cut_begun, cut_unlinks, unlinked_cut, reclaimed_of}

-- the words lead along one list alone
pub leads_once : (next : ℕ → ℕ) (word : ℕ) (a b : List ℕ) → LeadsThrough next word a → LeadsThrough next word b → a ≡ b
leads_once next word [] [] h k = refl
leads_once next word [] (y ∷ b) h k = absurd (link_apart y (sym k.0 ∙ h))
leads_once next word (x ∷ a) [] h k = absurd (link_apart x (sym h.0 ∙ k))
leads_once next word (x ∷ a) (y ∷ b) h k = let same = link_same x y (sym h.0 ∙ k.0) in let more = leads_once next (next x) a b h.1 (subst (λ (z : ℕ). LeadsThrough next (next z) b) (sym same) k.1) in
    λ j. same j ∷ more j

-- a bucket has one chain
pub one_chain : (key : Key) (m : ℕ → ℕ → ℕ) (table bucket : ℕ) (a b : List ℕ) → IsChain key m table bucket a → IsChain key m table bucket b → a ≡ b
one_chain key m table bucket a b h k = leads_once (next_link key m table) (head_link key m table bucket) a b h.met k.met

module _ (key : Key) (m : ℕ → ℕ → ℕ) (w : World) (views : List View) (i : Inv key m w views) where
  pub chain_is : (table bucket : ℕ) → table < 4 → bucket < 2 ^ key.sizes.bits → IsChain key m table bucket (w.chains table bucket)
  chain_is table bucket tl bl = record { met = i.chains.leads table bucket tl bl; once = i.chains.once table bucket }

  pub the_chain : (table bucket : ℕ) (chain : List ℕ) → table < 4 → bucket < 2 ^ key.sizes.bits → IsChain key m table bucket chain → chain ≡ w.chains table bucket
  the_chain table bucket chain tl bl h = one_chain key m table bucket chain (w.chains table bucket) h (chain_is table bucket tl bl)

  -- what is linked is in the chain of its bucket
  pub in_chain : (table bucket entry x : ℕ) → table < 4 → entry < key.entries → w.linked table entry ≡ true → m CODE entry ≡ x → bucket_of x table key.sizes.bits ≡ bucket → Member entry (w.chains table bucket)
  in_chain table bucket entry x tl el on code is = subst (λ (b : ℕ). Member entry (w.chains table b)) (ap (λ (c : ℕ). bucket_of c table key.sizes.bits) code ∙ is) (i.chains.whole table entry tl el on)

  -- a declaration that was not taken out of the table is linked there
  pub declared_linked : (table entry id : ℕ) → table < 4 → entry < key.entries → w.uses entry ≡ holds id → ((d : ℕ) → IsWd w.log d id entry → IsCutAt views w.word table d → ⊥) → w.linked table entry ≡ true
  declared_linked table entry id tl el held uncut = by_bool (w.linked table entry) refl where
    by_bool : (b : Bool) → w.linked table entry ≡ b → w.linked table entry ≡ true
    by_bool true is = is
    by_bool false is = let r = reclaimed_of key m w views i id entry table tl el held is in absurd (uncut r.0 r.1.withdraws (unlinked_cut key m w views i r.0 id entry table tl r.1 is))

  members : (table bucket entry : ℕ) → table < 4 → Member entry (w.chains table bucket)
      → (entry < key.entries) × (LinksDeclaration key views w.log w.word (given_back w.word views) table bucket entry ⊎ LinksHand key views table bucket entry)
  members table bucket entry tl there = (inside.0, by_use (w.uses entry) refl) where
    inside : (entry < key.entries) × (w.linked table entry ≡ true) × (bucket_of (m CODE entry) table key.sizes.bits ≡ bucket)
    inside = i.chains.inside table bucket entry there

    by_use : (u : Use) → w.uses entry ≡ u → LinksDeclaration key views w.log w.word (given_back w.word views) table bucket entry ⊎ LinksHand key views table bucket entry
    by_use (free j) is = absurd (true≢false (sym inside.1 ∙ i.links.ring table entry j tl inside.0 is))
    by_use (holds id) is = let h = held_has key m w views i entry id inside.0 is in inl (record {
      id = id;
      unit = h.0;
      has = h.1;
      bucket_is = ap (λ (c : ℕ). bucket_of c table key.sizes.bits) (sym (i.codes.bodies id entry h.0 is h.1.declared)) ∙ inside.2;
      uncut = λ d wd cut. true≢false (sym inside.1 ∙ (cut_unlinks key m w views i d id entry table tl wd (not_returned key m w views i d id entry wd (h.1.kept d entry wd)) cut).1);
    })
    by_use (in_hand seat k) is = let h = i.in_hands entry seat k is in let f = i.hands seat h.0 h.2 k h.1 h.3 in
        let linked = sym (f.tables table tl) ∙ (ap (w.linked table) h.4 ∙ inside.1) in let code = of_some h.1.code (f.written table linked).1 in inr (record {
          seat = seat;
          view = h.0;
          place = k;
          hand = h.1;
          is_seat = h.2;
          has = h.3;
          entry_is = h.4;
          linked = linked;
          code = code.0;
          code_is = code.1;
          bucket_is = ap (λ (c : ℕ). bucket_of c table key.sizes.bits) (sym (f.code code.0 code.1) ∙ ap (m CODE) h.4) ∙ inside.2;
        }) where
          of_some : (o : Option ℕ) → IsSome o → (x : ℕ) × (o ≡ Some x)
          of_some None h = absurd (true≢false (sym h))
          of_some (Some x) h = (x, refl)

  linked_there : (table bucket entry : ℕ) → table < 4 → (entry < key.entries) × (LinksDeclaration key views w.log w.word (given_back w.word views) table bucket entry ⊎ LinksHand key views table bucket entry)
      → Member entry (w.chains table bucket)
  linked_there table bucket entry tl given = ⊎_elim
      (λ (d : LinksDeclaration key views w.log w.word (given_back w.word views) table bucket entry).
      let held = has_held key m w views i entry d.id d.unit d.has in
      in_chain table bucket entry d.unit.body tl given.0 (declared_linked table entry d.id tl given.0 held d.uncut) (i.codes.bodies d.id entry d.unit held d.has.declared) d.bucket_is)
      (λ (h : LinksHand key views table bucket entry). let f = i.hands h.seat h.view h.is_seat h.place h.hand h.has in
      in_chain table bucket entry h.code tl given.0 (ap (w.linked table) (sym h.entry_is) ∙ (f.tables table tl ∙ h.linked)) (ap (m CODE) (sym h.entry_is) ∙ f.code h.code h.code_is) h.bucket_is)
      given.1

  -- the sentence on chains
  pub chains_stand : ChainsStand key m views w.log w.word (given_back w.word views)
  chains_stand = record {
    one_cut = λ table other d e cut also. let a = cut_begun key m w views i table d cut in let b = cut_begun key m w views i other e also in omega arith;
    chain = λ table bucket tl bl. (w.chains table bucket, chain_is table bucket tl bl, λ entry. (members table bucket entry tl, linked_there table bucket entry tl));
  }
