-- `run`: what it writes and saves, the accounts of its sessions, and why it refuses an image or a round.
use Rattle.std.specs.Prelude.{◌≡◌, ◌⊎◌, ℕ, ◌+◌, Option, None, IsSome, List, [], ◌∷◌, ◌++◌, length, map, slice_get, All, Some, codes}
use Rattle.std.specs.List.{AllZip, range_with_len}
use Rattle.std.specs.Fmt.{decimal}
use Rattle.reg_model.specs.declared.reply.Row.{Row}
use Rattle.reg_model.specs.declared.start.StartFault.{StartFault}
use Rattle.reg_model.specs.declared.start.StartFault.TheVariants as faults
use Rattle.reg_model.specs.Registry.{start_refusal}
use Rattle.reg_model.specs.Limits.{Limits}
use Rattle.reg_model.specs.Opening.{Opening, IsOpening}
use Rattle.reg_model.specs.Rows.{session_rows, AsksLogFirst}
use Rattle.reg_model.specs.Runs.{RoundRows, IsHistory, IsLawfulRun, nothing, next_opening, closing}
use Rattle.reg_image.specs.declared.fault.ImageFault.{ImageFault}
use Rattle.reg_image.specs.Images.{IsImage}
use Rattle.reg_image.specs.ImageFaults.{image_fault}
use Rattle.reg_requests.specs.declared.items.Item.{Item}
use Rattle.reg_requests.specs.declared.items.Item.TheVariants as items
use Rattle.reg_session.specs.Files.{Files}
use Rattle.reg_requests.specs.Lines.{line, spaced, reply_text, bad_text, kind_of}
use Rattle.reg_requests.specs.Requests.{AreItems, calls_of}
use Rattle.reg_history.specs.History.{history_text}
use Rattle.reg_top.specs.declared.refusal.Refusal.{Refusal}
use Rattle.reg_top.specs.declared.refusal.Refusal.TheVariants.{Image, TooSmall, IdsSpent}
use Rattle.reg_top.specs.Fetches.{RoundPlan, Plan}
use Rattle.reg_history.specs.lines.Values.{IsRunValue}

-- a line for each item of a file: the refusal, or the reply of the call's row
abbrev pub item_lines : List Item → List Row → List ℕ
item_lines [] rows = []
item_lines (items.Bad why ∷ list) rows = line (bad_text why) ++ item_lines list rows
item_lines (items.Call call ∷ list) [] = item_lines list []
item_lines (items.Call call ∷ list) (row ∷ rows) = line (reply_text (kind_of call) row.reply) ++ item_lines list rows

-- the replies of a round to its sessions, from a session on
abbrev pub session_texts : ℕ → ℕ → List (List Item) → List Row → List ℕ
session_texts round session [] rows = []
session_texts round session (list ∷ lists) rows =
    line (spaced (codes "replies" ∷ decimal round ∷ decimal session ∷ []))
    ++ item_lines list (session_rows session rows)
    ++ session_texts round (session + 1) lists rows

-- the replies of the rounds, from a round on
abbrev pub reply_texts : ℕ → List (List (List Item)) → List RoundRows → List ℕ
reply_texts number [] rounds = []
reply_texts number (lists ∷ more) [] = []
reply_texts number (lists ∷ more) (round ∷ rounds) = session_texts number 0 lists round.rows ++ reply_texts (number + 1) more rounds

-- the rows of each session are the calls of its items, each once and in order
abbrev pub MakesCalls : List (List Item) → RoundRows → Type 0
MakesCalls lists round = (session : ℕ) (list : List Item) → slice_get lists session ≡ Some list → map (λ row. row.call) (session_rows session round.rows) ≡ calls_of list

-- the items of the file with this name
abbrev pub IsFileOf : Files → List ℕ → List Item → Type 0
IsFileOf files name list = (bytes : List ℕ) × (files name ≡ Some bytes) × AreItems bytes list

-- the accounts of a round's sessions, by number: the rows of each
abbrev pub accounts_served : RoundRows → List (List Row)
accounts_served round = map (λ session. session_rows session round.rows) (range_with_len 0 round.limits.callers)

-- where a round has one session, a refusal for want of entries comes only below the log's end
abbrev pub AskLogFirst : Opening → List RoundRows → Type 0
AskLogFirst opening [] = Unit {0}
AskLogFirst opening (round ∷ rounds) = (round.limits.callers ≡ 1 → All (AsksLogFirst round.limits opening) round.rows) × AskLogFirst (next_opening opening round.rows) rounds

-- The rounds have the planned sizes and make the calls of the planned files; their numbers are those that the program's types can
-- have; and a lone session is told of a full log first.
pub record MakesPlan (opening : Opening) (plan : List RoundPlan) (files : Files) (rounds : List RoundRows) : Type 0 where
  pub items : List (List (List Item))
  pub callers : All (λ (p : RoundPlan). p.limits.callers ≡ length p.names) plan
  pub read : AllZip (λ (p : RoundPlan) lists. AllZip (IsFileOf files) p.names lists) plan items
  pub sizes : map (λ (p : RoundPlan). p.limits) plan ≡ map (λ (r : RoundRows). r.limits) rounds
  pub calls : AllZip MakesCalls items rounds
  pub alone : AskLogFirst opening rounds
  pub values : IsRunValue opening rounds

-- The output is that of one lawful run, which makes the calls of the planned files.
pub record IsOutputFrom (opening : Opening) (plan : List RoundPlan) (files : Files) (rounds : List RoundRows) (output : List ℕ) : Type 0 where
  pub made : MakesPlan opening plan files rounds
  pub lawful : IsHistory opening rounds
  pub text : output ≡ reply_texts 0 made.items rounds ++ history_text opening rounds

-- what a run begins with: what the image in the file to load is of, or nothing where no file is to be loaded
abbrev pub IsOpeningOf : Option (List ℕ) → Files → Opening → Type 0
IsOpeningOf None files opening = opening ≡ nothing
IsOpeningOf (Some name) files opening = (bytes : List ℕ) × (files name ≡ Some bytes) × IsImage opening bytes

-- The run begins so, and has this output.
pub record IsRunOutput (plan : Plan) (files : Files) (rounds : List RoundRows) (output : List ℕ) : Type 0 where
  pub opening : Opening
  pub opens : IsOpeningOf plan.load files opening
  pub is : IsOutputFrom opening plan.rounds files rounds output

-- The bytes are the image of what the last of the rounds leaves.
pub record IsImageLeft (plan : Plan) (files : Files) (rounds : List RoundRows) (bytes : List ℕ) : Type 0 where
  pub opening : Opening
  pub opens : IsOpeningOf plan.load files opening
  pub image : IsImage (closing opening rounds) bytes

-- the refusal of the round with this number, where a desk refuses to begin
abbrev pub refusal_for : ℕ → Option StartFault → Option Refusal
refusal_for number None = None
refusal_for number (Some (faults.TooSmall live entries)) = Some (TooSmall number live entries)
refusal_for number (Some (faults.IdsSpent base log)) = Some (IdsSpent number base log)
refusal_for number (Some faults.NoMemory) = None

-- why the round with this number can't begin so: more declarations are live than it has entries, or its last id would be 2^34 or more
abbrev pub round_refusal : ℕ → Limits → Opening → Option Refusal
round_refusal number limits opening = refusal_for number (start_refusal limits opening)

-- The rounds are a lawful run with the first planned sizes, and the next planned round can't begin with what they leave.
pub record RefusesAfter (opening : Opening) (plan : List RoundPlan) (rounds : List RoundRows) (refusal : Refusal) : Type 0 where
  pub before : List RoundPlan
  pub next : RoundPlan
  pub rest : List RoundPlan
  pub split : plan ≡ before ++ next ∷ rest
  pub sizes : map (λ (p : RoundPlan). p.limits) before ≡ map (λ (r : RoundRows). r.limits) rounds
  pub opens : IsOpening opening
  pub lawful : IsLawfulRun opening rounds
  pub why : round_refusal (length rounds) next.limits (closing opening rounds) ≡ Some refusal

-- The run begins so, these rounds make the calls of the planned files, too, and the next can't begin.
pub record RefusesRound (plan : Plan) (files : Files) (rounds : List RoundRows) (refusal : Refusal) : Type 0 where
  pub opening : Opening
  pub opens : IsOpeningOf plan.load files opening
  pub after : RefusesAfter opening plan.rounds rounds refusal
  pub made : MakesPlan opening after.before files rounds

-- the file to load has no image, and this is its first fault
pub record RefusesImage (plan : Plan) (files : Files) (refusal : Refusal) : Type 0 where
  pub name : List ℕ
  pub named : plan.load ≡ Some name
  pub bytes : List ℕ
  pub held : files name ≡ Some bytes
  pub fault : ImageFault
  pub has : image_fault bytes ≡ Some fault
  pub is : refusal ≡ Image fault

abbrev pub RefusesRun : Plan → Files → List RoundRows → Refusal → Type 0
RefusesRun plan files rounds refusal = RefusesImage plan files refusal ⊎ RefusesRound plan files rounds refusal

-- ---- whatever the shelf tells

-- what a run may begin with: what some image is of, or nothing where no file is to be loaded
abbrev pub MayBegin : Option (List ℕ) → Opening → Type 0
MayBegin None opening = opening ≡ nothing
MayBegin (Some name) opening = (bytes : List ℕ) × IsImage opening bytes

-- some bytes that were loaded have the fault, and no round was served
pub record RefusesBytes (plan : Plan) (rounds : List RoundRows) (refusal : Refusal) : Type 0 where
  pub loads : IsSome plan.load
  pub bytes : List ℕ
  pub fault : ImageFault
  pub has : image_fault bytes ≡ Some fault
  pub is : refusal ≡ Image fault
  pub none : rounds ≡ []

-- the rounds are a lawful run from something that the run may begin with, and the next can't begin
pub record RefusesNext (plan : Plan) (rounds : List RoundRows) (refusal : Refusal) : Type 0 where
  pub opening : Opening
  pub opens : MayBegin plan.load opening
  pub after : RefusesAfter opening plan.rounds rounds refusal

abbrev pub RefusesServedRun : Plan → List RoundRows → Refusal → Type 0
RefusesServedRun plan rounds refusal = RefusesBytes plan rounds refusal ⊎ RefusesNext plan rounds refusal
