-- The line that a fault writes.
use Rattle.std.specs.Prelude.{ℕ, List, [], ◌∷◌, ◌++◌, codes}
use Rattle.std.specs.Fmt.{decimal}
use Rattle.iscc_code.specs.declared.iscc.IsccFault.{IsccFault}
use Rattle.iscc_code.specs.declared.iscc.IsccFault.TheVariants as codes_faults
use Rattle.iscc_code.specs.declared.composing.ComposeFault.{ComposeFault}
use Rattle.iscc_code.specs.declared.composing.ComposeFault.TheVariants as compose_faults
use Rattle.iscc_text.specs.declared.read.TextFault.{TextFault}
use Rattle.iscc_text.specs.declared.read.TextFault.TheVariants as text_faults
use Rattle.reg_history.specs.declared.check.fault.CheckWhy.{CheckWhy}
use Rattle.reg_history.specs.declared.check.fault.CheckWhy.TheVariants as line_faults
use Rattle.reg_image.specs.declared.fault.ImageWhy.{ImageWhy}
use Rattle.reg_image.specs.declared.fault.ImageWhy.TheVariants as image_faults
use Rattle.reg_top.specs.declared.refusal.WordFault.{WordFault}
use Rattle.reg_top.specs.declared.refusal.WordFault.TheVariants as word_faults
use Rattle.reg_top.specs.declared.refusal.Refusal.{Refusal}
use Rattle.reg_top.specs.declared.refusal.Refusal.TheVariants as refusals
use Rattle.reg_requests.specs.Lines.{line, spaced}

-- why bytes encode no ISCC
abbrev pub iscc_why : IsccFault → List ℕ
iscc_why (codes_faults.Header fault) = codes "header"
iscc_why codes_faults.MainType = codes "main type"
iscc_why codes_faults.Version = codes "version"
iscc_why codes_faults.Length = codes "length"
iscc_why codes_faults.SubType = codes "sub type"
iscc_why codes_faults.Short = codes "short"
iscc_why codes_faults.Long = codes "long"

-- why a text stands for no ISCC; a letter with its place
abbrev pub text_why : TextFault → List ℕ
text_why text_faults.Scheme = codes "scheme"
text_why (text_faults.Letter at) = codes "letter " ++ decimal at
text_why text_faults.Bits = codes "bits"
text_why (text_faults.Iscc fault) = iscc_why fault

-- why a text stands for no unit
abbrev pub word_why : WordFault → List ℕ
word_why (word_faults.Text fault) = text_why fault
word_why word_faults.NotUnit = codes "not a unit"

-- why units have no composite
abbrev pub compose_why : ComposeFault → List ℕ
compose_why compose_faults.Twice = codes "twice"
compose_why compose_faults.NoData = codes "no data"
compose_why compose_faults.NoInstance = codes "no instance"
compose_why compose_faults.Narrow = codes "narrow"
compose_why compose_faults.SubTypes = codes "sub types"

-- why a line of a history can't stand
abbrev pub line_why : CheckWhy → List ℕ
line_why line_faults.Form = codes "form"
line_why line_faults.Round = codes "round"
line_why line_faults.Session = codes "session"
line_why line_faults.Order = codes "order"
line_why line_faults.Point = codes "point"
line_why line_faults.Reply = codes "reply"
line_why line_faults.End = codes "end"

-- why bytes are no image
abbrev pub image_why : ImageWhy → List ℕ
image_why image_faults.Short = codes "short"
image_why image_faults.Magic = codes "magic"
image_why image_faults.Version = codes "version"
image_why image_faults.Kind = codes "kind"
image_why image_faults.Order = codes "order"
image_why image_faults.Range = codes "range"
image_why image_faults.Sum = codes "sum"
image_why image_faults.Trailing = codes "trailing"

-- why a command refuses what it is given; a file without a history has no line that is told
abbrev pub refusal_why : Refusal → List ℕ
refusal_why (refusals.Text fault) = spaced (codes "text" ∷ text_why fault ∷ [])
refusal_why (refusals.Word at why) = spaced (codes "word" ∷ decimal at ∷ word_why why ∷ [])
refusal_why (refusals.Units fault) = spaced (codes "compose" ∷ compose_why fault ∷ [])
refusal_why refusals.NoHistory = spaced (codes "line" ∷ codes "0" ∷ codes "none" ∷ [])
refusal_why (refusals.Line fault) = spaced (codes "line" ∷ decimal fault.line ∷ line_why fault.why ∷ [])
refusal_why (refusals.Image fault) = spaced (codes "image" ∷ image_why fault.why ∷ codes "at" ∷ decimal fault.at ∷ [])
refusal_why (refusals.TooSmall round live entries) = spaced (codes "round" ∷ decimal round ∷ codes "live" ∷ decimal live ∷ codes "entries" ∷ decimal entries ∷ [])
refusal_why (refusals.IdsSpent round base log) = spaced (codes "round" ∷ decimal round ∷ codes "base" ∷ decimal base ∷ codes "log" ∷ decimal log ∷ [])

-- the status of a refusal
abbrev pub refusal_number : Refusal → ℕ
refusal_number (refusals.Text fault) = 10
refusal_number (refusals.Word at why) = 10
refusal_number (refusals.Units fault) = 10
refusal_number refusals.NoHistory = 10
refusal_number (refusals.Line fault) = 10
refusal_number (refusals.Image fault) = 9
refusal_number (refusals.TooSmall round live entries) = 8
refusal_number (refusals.IdsSpent round base log) = 11

-- its line, with that number
abbrev pub refusal_line : Refusal → List ℕ
refusal_line refusal = line (codes "fault " ++ (decimal (refusal_number refusal) ++ (codes " " ++ refusal_why refusal)))

-- the line of words that are of no form
abbrev pub words_line : List ℕ
words_line = line (codes "fault 2 words")

-- the lines of a file with this name that isn't there, that couldn't be read, or that is too long
abbrev pub missing_line : List ℕ → List ℕ
missing_line name = line (codes "fault 3 missing " ++ name)

abbrev pub read_line : List ℕ → List ℕ
read_line name = line (codes "fault 4 read " ++ name)

abbrev pub long_line : List ℕ → List ℕ
long_line name = line (codes "fault 7 too long " ++ name)

-- the line of an image that couldn't be written under this name
abbrev pub unsaved_line : List ℕ → List ℕ
unsaved_line name = line (codes "fault 5 write " ++ name)

-- the line of a call for which memory is wanting
abbrev pub memory_line : List ℕ
memory_line = line (codes "fault 6 memory")
