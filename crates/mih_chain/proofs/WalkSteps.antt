-- What a walk loads: an entry, or the end.
use Rattle.std.proofs.Common.{◌≡◌, ◌≢◌, ℕ, ◌<◌, ◌≤◌, ◌⊎◌, inl, inr, IfNone, IfSome, Option, None, Some, sym, refl, ap, ◌∙◌, subst, arith}
use Rattle.reg_model.specs.Limits.{Limits, IsInRange}
use Rattle.reg_rule.specs.declared.view.Key.{Key}
use Rattle.reg_rule.specs.declared.told.Told.{Told}
use Rattle.reg_rule.specs.declared.told.Told.TheVariants.{Nothing, Begins}
use Rattle.reg_rule.specs.declared.view.Cursor.{Cursor}
use Rattle.reg_rule.specs.declared.view.View.{View}
use Rattle.reg_rule.specs.Links.{link_word}
use Rattle.reg_rule.specs.Chains.{Once}
use Rattle.reg_rule.specs.Moves.{TellsHits, none_met, next_met, walked}
use Rattle.reg_rule.specs.Steps.{HasWalked, HeadLoaded, NextLoaded, HeadTells, NextTells}

-- the word names an entry, or nothing
pub ends : (o : Option ℕ) (word : ℕ) (P : Type 0) → IfNone o (word ≡ 0) → (word ≡ 0 → P) → IfNone o P
ends None word P is f = f is
ends (Some e) word P is f = tt

pub named : (o : Option ℕ) (word : ℕ) (P : ℕ → Type 0) → IfSome o (λ e. word ≡ link_word e) → ((e : ℕ) → word ≡ link_word e → P e) → IfSome o P
named None word P is f = tt
named (Some e) word P is f = f e is

abbrev pub IsWalk : Told → Type 0
IsWalk told = (told ≡ Begins) ⊎ (told ≡ Nothing)

-- no row is told
same_view : (told : Told) → IsWalk told → (u w : View) → TellsHits told u w → w ≡ u
same_view told (inl is) u w t = (subst (λ (t : Told). TellsHits t u w → w ≡ u) (sym is) (λ (h : TellsHits Begins u w). h.2)) t
same_view told (inr is) u w t = (subst (λ (t : Told). TellsHits t u w → w ≡ u) (sym is) (λ (h : TellsHits Nothing u w). h.2)) t

head_walks : (told : Told) → IsWalk told → (table bucket : ℕ) (v : View) (found : ℕ) (w : View) → HeadTells told table bucket v found w → HeadLoaded told table bucket v found w
head_walks told (inl is) table bucket v found w t = (subst (λ (t : Told). HeadTells t table bucket v found w → HeadLoaded t table bucket v found w) (sym is) (λ (h : HeadTells Begins table bucket v found w). h)) t
head_walks told (inr is) table bucket v found w t = (subst (λ (t : Told). HeadTells t table bucket v found w → HeadLoaded t table bucket v found w) (sym is) (λ (h : HeadTells Nothing table bucket v found w). h)) t

not_none : (word e : ℕ) → word ≡ link_word e → word ≢ 0
not_none word e is zero = absurd (omega arith)

one_entry : (word a b : ℕ) → word ≡ link_word a → word ≡ link_word b → a ≡ b
one_entry word a b x y = omega arith

module _ (told : Told) (walks : IsWalk told) (table bucket : ℕ) (v : View) (found : ℕ) (w : View) (tells : HeadTells told table bucket v found w) where
  abbrev loaded : HeadLoaded told table bucket v found w
  loaded = head_walks told walks table bucket v found w tells

  -- the bucket that was loaded is the one that is walked
  pub head_ends : (walked : ℕ) → bucket ≡ walked → found ≡ 0 → (w ≡ none_met told v) × HasWalked table walked w
  head_ends walked same none =
      let t = loaded.ends_at none in let is = same_view told walks (none_met told v) w t.0 in
      (is, subst (λ (b : ℕ). HasWalked table b w) same (subst (λ (z : View). HasWalked table bucket z) (sym is) t.1))

module _ (table at : ℕ) (v : View) (found : ℕ) (w : View) (c : Cursor) (has : v.cursor ≡ Some c) (tells : NextTells Nothing table at v found w) where
  abbrev followed : NextLoaded Nothing c v found w
  followed = tells c has

  pub next_entry : found ≢ 0 → (e : ℕ) × (found ≡ link_word e) × (e < v.key.entries)
  next_entry some = let t = followed.comes_to some in (t.0, t.1, t.2)

  pub next_ends : found ≡ 0 → (w ≡ walked v) × HasWalked c.table c.bucket w
  next_ends none = let t = followed.ends_at none in let is = same_view Nothing (inr refl) (walked v) w t.0 in (is, subst (λ (z : View). HasWalked c.table c.bucket z) (sym is) t.1)

  pub next_is : (e : ℕ) → found ≡ link_word e → (e < v.key.entries) × (w ≡ next_met v c e) × Once w.visited
  next_is e is =
      let t = followed.comes_to (not_none found e is) in let one = one_entry found t.0 e t.1 is in
      (subst (λ (n : ℕ). n < v.key.entries) one t.2, same_view Nothing (inr refl) (next_met v c t.0) w t.3 ∙ ap (next_met v c) one, t.4)

-- an entry is a number of 20 bits
pub few_entries : (sizes : Limits) (key words : Key) → IsInRange sizes → sizes ≡ words.sizes → words.entries ≡ words.sizes.entries → key ≡ words → key.entries ≤ 1048576
few_entries sizes key words range same entries knows =
    let a = range.entries.1 in let b : sizes.entries ≡ words.sizes.entries = ap (λ (z : Limits). z.entries) same in let c : key.entries ≡ words.entries = ap (λ (z : Key). z.entries) knows in omega arith
