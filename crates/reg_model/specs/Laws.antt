-- What the definitions determine.
use Rattle.std.specs.Prelude.{◌≡◌, ℕ, ◌+◌, ◌<◌, false, List, [], ◌∷◌, ◌++◌, length, map, replicate, All, AllPairs, Some, slice_get}
use Rattle.iscc_header.specs.declared.unit.Unit64.{Unit64}
use Rattle.reg_model.specs.declared.update.Declared.{Declared}
use Rattle.reg_model.specs.declared.update.Update.{Update}
use Rattle.reg_model.specs.declared.reply.Hit.{Hit}
use Rattle.reg_model.specs.declared.reply.Row.{Row}
use Rattle.reg_model.specs.Limits.{Limits}
use Rattle.reg_model.specs.Opening.{Opening, IsOpening}
use Rattle.reg_model.specs.Replies.{AreHits, Replies}
use Rattle.reg_model.specs.Rows.{update_of, is_accepted, log_of, session_rows, IsSeenBy, IsLawful, AsksLogFirst, IsMerge}
use Rattle.reg_model.specs.Merge.{AreAccounts}
use Rattle.reg_model.specs.Accounts.{StandsInLog, ShareLog, IsNextRow, with_row}

-- a query has one list of hits
abbrev pub ListTellsHits : Type 0
ListTellsHits = (list : List Declared) (unit : Unit64) (radius : ℕ) (a b : List Hit) → AreHits list unit radius a → AreHits list unit radius b → a ≡ b

-- ---- lawful rounds

-- the points of a session never fall, and an accepted row is above all that its session has seen before it
abbrev pub LawfulRowsAreSeen : Type 0
LawfulRowsAreSeen = (limits : Limits) (opening : Opening) (rows : List Row) → IsLawful limits opening rows
    → (session : ℕ) → AllPairs IsSeenBy (session_rows session rows)

-- each row stands in the log of the whole round
abbrev pub LawfulRowsStand : Type 0
LawfulRowsStand = (limits : Limits) (opening : Opening) (rows : List Row) → IsLawful limits opening rows → All (StandsInLog limits opening (log_of rows)) rows

-- where a round has one session and the log is asked before the entries, the calls tell the rows
abbrev pub LoneRoundTellsRows : Type 0
LoneRoundTellsRows = (limits : Limits) (opening : Opening) (a b : List Row) → IsOpening opening → limits.callers ≡ 1
    → IsLawful limits opening a → IsLawful limits opening b → All (AsksLogFirst limits opening) a → All (AsksLogFirst limits opening) b
    → map (λ (row : Row). row.call) a ≡ map (λ (row : Row). row.call) b → a ≡ b

-- ---- accounts

-- accounts have one merge
abbrev pub AccountsTellMerge : Type 0
AccountsTellMerge = (accounts : List (List Row)) (a b : List Row) → AreAccounts accounts → IsMerge accounts a → IsMerge accounts b → a ≡ b

-- in the merge, the rows of a session are its account
abbrev pub MergeKeepsAccounts : Type 0
MergeKeepsAccounts = (accounts : List (List Row)) (rows : List Row) (session : ℕ) (account : List Row) → AreAccounts accounts → All (AllPairs IsSeenBy) accounts
    → IsMerge accounts rows → slice_get accounts session ≡ Some account → session_rows session rows ≡ account

-- the accounts have a merge, which is lawful and makes this log
pub record MergeToLog (limits : Limits) (opening : Opening) (log : List Update) (accounts : List (List Row)) : Type 0 where
  pub rows : List Row
  pub merge : IsMerge accounts rows
  pub lawful : IsLawful limits opening rows
  pub makes : log_of rows ≡ log

-- accounts that stand in one log do
abbrev pub AccountsMerge : Type 0
AccountsMerge = (limits : Limits) (opening : Opening) (log : List Update) (accounts : List (List Row)) → ShareLog limits opening log accounts
    → MergeToLog limits opening log accounts

-- accounts without rows share the empty log
abbrev pub EmptyAccountsShare : Type 0
EmptyAccountsShare = (limits : Limits) (opening : Opening) → ShareLog limits opening [] (replicate limits.callers [])

-- accounts that share a log still do with one more row that changes nothing, at whatever place of the log it stands, where its session
-- has seen its earlier rows
abbrev pub AccountsTakeRow : Type 0
AccountsTakeRow = (limits : Limits) (opening : Opening) (log : List Update) (accounts : List (List Row)) (account : List Row) (row : Row)
    → ShareLog limits opening log accounts → IsNextRow accounts account row
    → is_accepted row ≡ false → StandsInLog limits opening log row → All (λ earlier. IsSeenBy earlier row) account
    → ShareLog limits opening log (with_row accounts row.session row)

-- and with one more row whose update is the log's next
abbrev pub AccountsTakeUpdate : Type 0
AccountsTakeUpdate = (limits : Limits) (opening : Opening) (log : List Update) (accounts : List (List Row)) (account : List Row) (row : Row) (update : Update)
    → ShareLog limits opening log accounts → IsNextRow accounts account row
    → update_of row.call row.reply ≡ Some update → row.point ≡ opening.base + length log + 1 → length log < limits.log
    → Replies limits opening log row.call row.reply
    → ShareLog limits opening (log ++ update ∷ []) (with_row accounts row.session row)
