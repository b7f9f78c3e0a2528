-- The chains after a store to the next word of an entry that is not linked (kind 14), and after a push (kind 15). The start of a round makes both.
use Rattle.std.proofs.Common.{◌≡◌, ℕ, ◌^◌, ◌<◌, Bool, true, false, inl, inr, ⊎_elim, List, ◌∷◌, sym, ap, ◌∙◌, subst, arith}
use mathlib.Core.Logic.{dite}
use native.Mathlib.Decide.{ℕ_discrete}
use Rattle.mih_plan.specs.Buckets.{bucket_of}
use Rattle.reg_rule.specs.Links.{link_word}
use Rattle.reg_words.specs.Memory.{set_at}
use Rattle.reg_words.proofs.Memory.{set_at-here, set_at-else}
use Rattle.reg_rule.specs.declared.view.Key.{Key}
use Rattle.reg_rule.specs.Chains.{Member, Once, LeadsThrough}
use Rattle.reg_rule.specs.inner.ChainParts.{head_cell, next_cell, next_in, ChainsPart}
use Rattle.reg_rule.proofs.Chained.{avoids_of}
use Rattle.reg_rule.proofs.CursorsCut.{set_in, set_in_here, set_in_away}
use Rattle.reg_rule.proofs.ChainsKept.{cell_apart, linked_same}

-- an entry that is not linked in a table is in no chain there
not_there : (key : Key) (heads nexts codes : ℕ → ℕ) (chains : ℕ → ℕ → List ℕ) (linked : ℕ → ℕ → Bool) (table bucket e : ℕ) → ChainsPart key heads nexts codes chains linked → linked table e ≡ false → Member e (chains table bucket) → ⊥
not_there key heads nexts codes chains linked table bucket e k off there = let on = (k.inside table bucket e there).1 in absurd (cc)

pub stores_next : (key : Key) (heads nexts codes : ℕ → ℕ) (chains : ℕ → ℕ → List ℕ) (linked : ℕ → ℕ → Bool) (table e x : ℕ) → e < key.entries → linked table e ≡ false → ChainsPart key heads nexts codes chains linked
    → ChainsPart key heads (set_at nexts (next_cell key.entries table e) x) codes chains linked
stores_next key heads nexts codes chains linked table e x low off k = record {
  leads = λ t b tl bl. linked_same (next_in key.entries nexts t) (next_in key.entries (set_at nexts (next_cell key.entries table e) x) t) (heads (head_cell key.sizes.bits t b)) (chains t b)
      (λ a there. let h = k.inside t b a there in set_at-else nexts (next_cell key.entries table e) x (next_cell key.entries t a)
      (λ z. let same = cell_apart key.entries t a table e h.0 low z in let on : linked table e ≡ true = (λ i. linked (sym same.0 i) (sym same.1 i)) ∙ h.1 in absurd (cc))) (k.leads t b tl bl);
  once = k.once;
  tables = k.tables;
  inside = k.inside;
  whole = k.whole;
}

abbrev pub pushed_chains : (ℕ → ℕ → List ℕ) → ℕ → ℕ → ℕ → ℕ → ℕ → List ℕ
pushed_chains chains table bucket e = set_in chains table bucket (e ∷ chains table bucket)

abbrev pub pushed_linked : (ℕ → ℕ → Bool) → ℕ → ℕ → ℕ → ℕ → Bool
pushed_linked linked table e = set_in linked table e true

pub pushes : (key : Key) (heads nexts codes : ℕ → ℕ) (chains : ℕ → ℕ → List ℕ) (linked : ℕ → ℕ → Bool) (table bucket e : ℕ) → table < 4 → bucket < 2 ^ key.sizes.bits → e < key.entries → linked table e ≡ false → bucket_of (codes e) table key.sizes.bits ≡ bucket
    → next_in key.entries nexts table e ≡ heads (head_cell key.sizes.bits table bucket) → ChainsPart key heads nexts codes chains linked
    → ChainsPart key (set_at heads (head_cell key.sizes.bits table bucket) (link_word e)) nexts codes (pushed_chains chains table bucket e) (pushed_linked linked table e)
pushes key heads nexts codes chains linked table bucket e tlow blow low off code points k =
    let bits : ℕ = key.sizes.bits in let cell : ℕ = head_cell bits table bucket in let heads' : ℕ → ℕ = set_at heads cell (link_word e) in
    let chains' : ℕ → ℕ → List ℕ = pushed_chains chains table bucket e in let linked' : ℕ → ℕ → Bool = pushed_linked linked table e in
    let here : (t b : ℕ) → t ≡ table → b ≡ bucket → chains' t b ≡ e ∷ chains table bucket = λ t b x y. set_in_here chains table bucket t b (e ∷ chains table bucket) x y in
    let still : (t b : ℕ) → (t ≡ table → b ≡ bucket → ⊥) → chains' t b ≡ chains t b = λ t b apart. set_in_away chains table bucket t b (e ∷ chains table bucket) apart in
    let on_still : (t a : ℕ) → linked t a ≡ true → linked' t a ≡ true = λ t a on. dite (ℕ_discrete t table)
    (λ x. dite (ℕ_discrete a e) (λ y. set_in_here linked table e t a true x y) (λ y. set_in_away linked table e t a true (λ _ z. y z) ∙ on)) (λ x. set_in_away linked table e t a true (λ z _. x z) ∙ on) in record {
      leads = λ t b tl bl. dite (ℕ_discrete (head_cell bits t b) cell)
          (λ same. let at = cell_apart (2 ^ bits) t b table bucket bl blow same in
          let first : heads' (head_cell bits t b) ≡ link_word e = ap heads' same ∙ set_at-here heads cell (link_word e) in
          subst (λ (l : List ℕ). LeadsThrough (next_in key.entries nexts t) (heads' (head_cell bits t b)) l) (sym (here t b at.0 at.1))
          (first, subst (λ (z : ℕ). LeadsThrough (next_in key.entries nexts z) (next_in key.entries nexts z e) (chains table bucket)) (sym at.0) (subst (λ (w : ℕ). LeadsThrough (next_in key.entries nexts table) w (chains table bucket)) (sym points) (k.leads table bucket tlow blow))))
          (λ apart. let other = still t b (λ x y. apart (λ i. head_cell bits (x i) (y i))) in
          subst (λ (z : ℕ × List ℕ). LeadsThrough (next_in key.entries nexts t) z.0 z.1) (λ i. (sym (set_at-else heads cell (link_word e) (head_cell bits t b) apart) i, sym other i)) (k.leads t b tl bl));
      once = λ t b. dite (ℕ_discrete t table)
          (λ x. dite (ℕ_discrete b bucket)
          (λ y. subst Once (sym (here t b x y)) (avoids_of e (chains table bucket) (not_there key heads nexts codes chains linked table bucket e k off), k.once table bucket))
          (λ y. subst Once (sym (still t b (λ _ z. y z))) (k.once t b)))
          (λ x. subst Once (sym (still t b (λ z _. x z))) (k.once t b));
      tables = λ t b a there. dite (ℕ_discrete t table) (λ x. omega arith) (λ x. k.tables t b a (subst (Member a) (still t b (λ z _. x z)) there));
      inside = λ t b a there. dite (ℕ_discrete t table)
          (λ x. dite (ℕ_discrete b bucket)
          (λ y. ⊎_elim
          (λ is. (subst (λ (z : ℕ). z < key.entries) (sym is) low, set_in_here linked table e t a true x is, (λ i. bucket_of (codes (is i)) (x i) bits) ∙ (code ∙ sym y)))
          (λ old. let h = k.inside table bucket a old in (h.0, on_still t a (ap (λ (z : ℕ). linked z a) x ∙ h.1), ap (λ (z : ℕ). bucket_of (codes a) z bits) x ∙ (h.2 ∙ sym y)))
          (subst (Member a) (here t b x y) there))
          (λ y. let h = k.inside t b a (subst (Member a) (still t b (λ _ z. y z)) there) in (h.0, on_still t a h.1, h.2)))
          (λ x. let h = k.inside t b a (subst (Member a) (still t b (λ z _. x z)) there) in (h.0, on_still t a h.1, h.2));
      whole = λ t a tl al on. let b : ℕ = bucket_of (codes a) t bits in
          let kept : linked t a ≡ true → Member a (chains' t b) = λ was. let old = k.whole t a tl al was in dite (ℕ_discrete t table)
          (λ x. dite (ℕ_discrete b bucket) (λ y. subst (Member a) (sym (here t b x y)) (inr (subst (λ (z : ℕ × ℕ). Member a (chains z.0 z.1)) (λ i. (x i, y i)) old))) (λ y. subst (Member a) (sym (still t b (λ _ z. y z))) old))
          (λ x. subst (Member a) (sym (still t b (λ z _. x z))) old) in
          dite (ℕ_discrete t table)
          (λ x. dite (ℕ_discrete a e)
          (λ y. let same : b ≡ bucket = (λ i. bucket_of (codes (y i)) (x i) bits) ∙ code in subst (Member a) (sym (here t b x same)) (inl y))
          (λ y. kept (sym (set_in_away linked table e t a true (λ _ z. y z)) ∙ on)))
          (λ x. kept (sym (set_in_away linked table e t a true (λ z _. x z)) ∙ on));
    }
