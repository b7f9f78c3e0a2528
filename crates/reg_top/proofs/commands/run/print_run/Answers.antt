use Rattle.std.proofs.Common.{◌≤◌, length, sym, subst}
use Rattle.std.specs.Option.{option_map}
use Rattle.reg_model.specs.Opening.{Opening}
use Rattle.reg_image.specs.declared.image.TheConstants.{DECLARED_MOST}
use Rattle.reg_top.specs.inner.RunImages.{SavesAs}
use Rattle.reg_top.proofs.commands.run.print_run.Goals as goal

pub image_left-requires : goal.image_left-requires
image_left-requires c = subst (λ (o : Opening). length o.list ≤ DECLARED_MOST) (sym c.left_of.ensures) c.requires.few

pub returns-clause-image : goal.returns-clause-image
returns-clause-image c = subst (λ (o : Opening). SavesAs c.args.plan.now.save o (option_map (λ bytes. bytes.items) c.in_ok-image.image)) c.left_of.ensures c.in_ok-image.ensures
