-- The images of a run: what a loaded one tells of the opening, and what is saved.
use Rattle.std.proofs.Common.{◌≡◌, ℕ, ◌≤◌, List, [], length, Option, Some, None, Ok, sym, ap, subst, refl, arith, lit≤}
use Rattle.std.specs.Prelude.{All, IsSome, IsSomeAnd}
use Rattle.std.proofs.lemmas.List.Elements.{All-nil}
use Rattle.reg_model.specs.Opening.{Opening, IsOpening}
use Rattle.reg_model.specs.Runs.{nothing}
use Rattle.reg_history.specs.lines.Values.{IsDeclaredValue}
use Rattle.reg_image.specs.declared.image.TheConstants.{DECLARED_MOST}
use Rattle.reg_image.specs.Images.{IsImage}
use Rattle.reg_session.specs.Files.{Files, PutTells}
use Rattle.reg_session.specs.Outside.{ShelfView}
use Rattle.reg_top.specs.declared.refusal.Refusal.{Refusal}
use Rattle.reg_top.specs.Fetches.{Plan}
use Rattle.reg_top.specs.commands.Run.{IsOpeningOf, MayBegin, RefusesImage, RefusesBytes}
use Rattle.reg_top.specs.Outcomes.{HasOnly}
use Rattle.reg_top.specs.inner.RunFiles.{LoadsImage}
use Rattle.reg_top.specs.inner.RunImages.{OpensWith, IsImageRefused, SavesAs}
use Rattle.reg_top.specs.inner.RunEndings.{PutsImage}

-- ---- what a run begins with

pub nothing_opens : IsOpening nothing
nothing_opens = record { base = lit≤ tt; rising = λ i j d lt low. absurd (omega arith); below = λ k d low. absurd (omega arith) }

-- what is known of what a run begins with
pub record Begins (opening : Opening) : Type 0 where
  pub opens : IsOpening opening
  pub values : All IsDeclaredValue opening.list
  pub few : length opening.list ≤ DECLARED_MOST

nothing_begins : Begins nothing
nothing_begins = record { opens = nothing_opens; values = All-nil IsDeclaredValue; few = lit≤ tt }

pub begins : (image : Option (List ℕ)) (opening : Opening) → OpensWith image opening → Begins opening
begins None opening with_it = subst Begins (sym with_it) nothing_begins
begins (Some bytes) opening with_it =
    let opens = with_it.opens in
    record {
      opens = opens;
      values = λ k d low. record { id = omega (arith, opens.below k d low, opens.base); unit = with_it.units k d low };
      few = with_it.few;
    }

pub may_begin_so : (files : Option Files) (load image : Option (List ℕ)) (opening : Opening) → LoadsImage files load image → OpensWith image opening → MayBegin load opening
may_begin_so files None None opening loads with_it = with_it
may_begin_so files None (Some bytes) opening loads with_it = absurd loads
may_begin_so files (Some name) None opening loads with_it = absurd loads
may_begin_so files (Some name) (Some bytes) opening loads with_it = (bytes, with_it)

pub opening_told : (told : Files) (load image : Option (List ℕ)) (opening : Opening) → LoadsImage (Some told) load image → OpensWith image opening → IsOpeningOf load told opening
opening_told told None None opening loads with_it = with_it
opening_told told None (Some bytes) opening loads with_it = absurd loads
opening_told told (Some name) None opening loads with_it = absurd loads
opening_told told (Some name) (Some bytes) opening loads with_it = (bytes, loads.held, with_it)

-- ---- an image that is refused

pub refuses_image : (told : Files) (plan : Plan) (image : Option (List ℕ)) (refusal : Refusal) → LoadsImage (Some told) plan.load image → IsImageRefused image refusal → RefusesImage plan told refusal
refuses_image told plan image refusal loads refused = by_load plan.load refl (subst (LoadsImage (Some told) plan.load) refused.loaded loads)
  where
    by_load : (load : Option (List ℕ)) → plan.load ≡ load → LoadsImage (Some told) load (Some refused.bytes) → RefusesImage plan told refusal
    by_load None is given = absurd given
    by_load (Some name) is given = record { name = name; named = is; bytes = refused.bytes; held = given.held; fault = refused.fault; has = refused.has; is = refused.is }

pub refuses_bytes : (files : Option Files) (plan : Plan) (image : Option (List ℕ)) (refusal : Refusal) → LoadsImage files plan.load image → IsImageRefused image refusal → RefusesBytes plan [] refusal
refuses_bytes files plan image refusal loads refused = record {
  loads = is_some plan.load (subst (LoadsImage files plan.load) refused.loaded loads);
  bytes = refused.bytes;
  fault = refused.fault;
  has = refused.has;
  is = refused.is;
  none = refl;
}
  where
    is_some : (load : Option (List ℕ)) → LoadsImage files load (Some refused.bytes) → IsSome load
    is_some None given = absurd given
    is_some (Some name) given = refl

-- ---- what is saved

put_under : (before after : Option Files) (name bytes : List ℕ) (P : List ℕ → Type 0) → PutTells before after name bytes (Ok tt) → P bytes → HasOnly (Some name) before after P
put_under None after name bytes P tells holds = tt
put_under (Some files) None name bytes P tells holds = absurd tells
put_under (Some files) (Some left) name bytes P tells holds = (tells.1, subst (λ h. IsSomeAnd h P) (sym tells.0) holds)

-- the name has the image of what is left, where there is one
pub has_image : (name image : Option (List ℕ)) (before after : ShelfView) (left : Opening) (P : List ℕ → Type 0) → SavesAs name left image → PutsImage name image before after
    → ((bytes : List ℕ) → IsImage left bytes → P bytes) → HasOnly name before.files after.files P
has_image None None before after left P saves puts holds = ap (λ (s : ShelfView). s.files) puts
has_image None (Some bytes) before after left P saves puts holds = absurd saves
has_image (Some name) None before after left P saves puts holds = absurd saves
has_image (Some name) (Some bytes) before after left P saves puts holds = put_under before.files after.files name bytes P puts.0 (holds bytes saves)

-- no fetch and no put failed
pub none_failed : (name image : Option (List ℕ)) (before after : ShelfView) → PutsImage name image before after → (after.fetch_faults ≡ before.fetch_faults) × (after.put_faults ≡ before.put_faults)
none_failed None image before after puts = (ap (λ (s : ShelfView). s.fetch_faults) puts, ap (λ (s : ShelfView). s.put_faults) puts)
none_failed (Some name) None before after puts = (ap (λ (s : ShelfView). s.fetch_faults) puts, ap (λ (s : ShelfView). s.put_faults) puts)
none_failed (Some name) (Some bytes) before after puts = (puts.1, puts.2)

-- without a name all is as it was
pub none_put : (name image : Option (List ℕ)) (before after : ShelfView) → PutsImage name image before after → name ≡ None → after.files ≡ before.files
none_put None image before after puts none = ap (λ (s : ShelfView). s.files) puts
none_put (Some name) image before after puts none = absurd (cc (none))
