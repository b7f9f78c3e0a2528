-- The commands, and the files that each of them fetches.
use Rattle.std.specs.Prelude.{ℕ, ◌^◌, Option, None, List, [], ◌∷◌, ◌++◌, map}
use Rattle.std.specs.List.{flat_map}
use Rattle.std.specs.Option.{option_to_list}
use Rattle.reg_model.specs.Limits.{Limits}
use Rattle.reg_make.specs.Workloads.{Work}

-- a round's sizes, and the names of its sessions' files
pub record RoundPlan : Type 0 where
  pub limits : Limits
  pub names : List (List ℕ)

-- the file with the image that a run begins with, if any, the name under which it leaves one, if any, and its rounds
pub record Plan : Type 0 where
  pub load : Option (List ℕ)
  pub save : Option (List ℕ)
  pub rounds : List RoundPlan

-- what a command line asks: to serve the files of some rounds, to serve a workload, to explain a text, to compose the units of some texts, to give
-- the Instance-Code of a file, or to check the history that is saved in a file
pub data Command : Type 0 where
  Run : Plan → Command
  Make : Work → Command
  Explain : List ℕ → Command
  Compose : List (List ℕ) → Command
  Instance : List ℕ → Command
  Check : List ℕ → Command

-- a file that a command fetches: its name, and how many bytes it may have
pub record Fetch : Type 0 where
  pub name : List ℕ
  pub limit : ℕ

abbrev pub fetch_of : ℕ → List ℕ → Fetch
fetch_of limit name = record { name = name; limit = limit }

-- the image that a run loads
abbrev pub image_fetches : Plan → List Fetch
image_fetches plan = map (fetch_of (2 ^ 25)) (option_to_list plan.load)

-- the files of its sessions, round by round
abbrev pub request_fetches : Plan → List Fetch
request_fetches plan = map (fetch_of (2 ^ 24)) (flat_map (λ (round : RoundPlan). round.names) plan.rounds)

-- the files that a command fetches, in order: a run fetches the image first
abbrev pub fetches : Command → List Fetch
fetches (Run plan) = image_fetches plan ++ request_fetches plan
fetches (Make work) = []
fetches (Explain text) = []
fetches (Compose texts) = []
fetches (Instance name) = fetch_of (2 ^ 28) name ∷ []
fetches (Check name) = fetch_of (2 ^ 28) name ∷ []

-- the name under which a command leaves an image
abbrev pub saved_name : Command → Option (List ℕ)
saved_name (Run plan) = plan.save
saved_name (Make work) = None
saved_name (Explain text) = None
saved_name (Compose texts) = None
saved_name (Instance name) = None
saved_name (Check name) = None
