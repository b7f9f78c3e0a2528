use Rattle.std.proofs.Common.{◌<◌, get_or, length, arith, inl, inr, ◌≡◌}
use Rattle.std.proofs.lemmas.Bool.{cases_lt}
use Rattle.std.proofs.lemmas.List.{get_or_past}
use Rattle.std.proofs.lemmas.List.Elements.{All-get_or}
use Rattle.reg_image.specs.inner.Reading.{image_opening}
use Rattle.reg_image.proofs.OneImage.{image_of, image_none}
use Rattle.reg_image.proofs.laws.bytes_are_an_image_or_have_a_first_fault.Goals as goal

pub returns : goal.returns
returns c = λ bytes range. (
  λ none. (
    image_opening bytes,
    image_of bytes (λ i. elim (cases_lt i (length bytes)) [
      | inl within ↦ All-get_or (λ byte. byte < 256) bytes i 0 within range
      | inr past ↦ (let zero_there : get_or bytes i 0 ≡ 0 = get_or_past bytes i 0 past in omega arith)
    ]) none,
  ),
  λ image. image_none image.0 bytes image.1,
)
