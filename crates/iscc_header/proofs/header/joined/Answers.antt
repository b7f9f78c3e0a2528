use Rattle.std.proofs.Common.{◌+◌, ◌*◌, ◌++◌, ◌∙◌, ap, arith}
use Rattle.iscc_header.specs.Bits.{bits_of}
use Rattle.iscc_header.proofs.BitLists.{bits_of-append}
use Rattle.iscc_header.proofs.HeaderSteps.{joined_fits}
use Rattle.iscc_header.proofs.header.joined.Goals as goal

pub overflow_add-result-2 : goal.overflow_add-result-2
overflow_add-result-2 c =
    let front = c.args.front in
    let last = c.in-Some.last in
    let fits = joined_fits front.value last.value front.count last.count c.requires.fits c.in-Some.ensures.fits c.requires.room c.in-Some.ensures.count in
    omega (arith, fits.0, fits.1, fits.2)

pub returns-clause-fits : goal.returns-clause-fits
returns-clause-fits c =
    let front = c.args.front in
    let last = c.in-Some.last in
    let fits = joined_fits front.value last.value front.count last.count c.requires.fits c.in-Some.ensures.fits c.requires.room c.in-Some.ensures.count in
    omega (arith, fits.0, fits.1)

pub returns-clause-bits : goal.returns-clause-bits
returns-clause-bits c =
    let front = c.args.front in
    let last = c.in-Some.last in
    let fits = joined_fits front.value last.value front.count last.count c.requires.fits c.in-Some.ensures.fits c.requires.room c.in-Some.ensures.count in
    let width = 4 * (front.count + last.count) in
    ap (λ n. bits_of width (n + last.value)) fits.0
    ∙ bits_of-append (4 * front.count) (4 * last.count) width front.value last.value c.in-Some.ensures.fits (omega arith)
    ∙ ap (λ bits. bits_of (4 * front.count) front.value ++ bits) c.in-Some.ensures.found
