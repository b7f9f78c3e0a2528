-- One more call of a session.
use Rattle.std.proofs.Common.{◌≡◌, inr, ℕ, ◌+◌, ◌<◌, List, [], ◌∷◌, ◌++◌, length, get_or, sym, ◌∙◌, ap, subst}
use Rattle.std.specs.Prelude.{All, take, drop, slice_get, IsSomeAnd}
use Rattle.std.proofs.lemmas.List.{map-append, take-append-drop, take_more, drop_more}
use Rattle.std.proofs.lemmas.List.Elements.{All-push}
use Rattle.reg_model.specs.declared.call.Call.{Call}
use Rattle.reg_model.specs.declared.reply.Answer.{Answer}
use Rattle.reg_model.specs.declared.reply.Row.{Row}
use Rattle.reg_model.specs.Desks.{PassView, Answered, Unanswered, row_of}
use Rattle.reg_model.specs.Limits.{Limits}
use Rattle.reg_model.specs.Opening.{Opening}
use Rattle.reg_model.specs.Rows.{AsksLogFirst}
use Rattle.reg_session.specs.Sessions.{calls_made, HasMade, IsQuery, HasMadeFirst}

module _ (limits : Limits) (opening : Opening) (session : ℕ) where
  -- a call that was answered
  pub made_more : (calls : List Call) (before after : PassView) (call : Call) (answer : Answer) → HasMade limits opening session calls before → Answered limits opening before after call answer
      → (limits.callers ≡ 1 → AsksLogFirst limits opening (row_of before call answer)) → HasMade limits opening session (calls ++ call ∷ []) after
  made_more calls before after call answer made answered asks = record {
    number = answered.adds.number ∙ made.number;
    makes = ap calls_made answered.adds.row ∙ map-append (λ (row : Row). row.call) before.account (row_of before call answer ∷ []) ∙ ap (λ (made : List Call). made ++ call ∷ []) made.makes;
    ended = answered.ended;
    asks = λ lone. subst (All (AsksLogFirst limits opening)) (sym answered.adds.row) (All-push (AsksLogFirst limits opening) before.account (row_of before call answer) (made.asks lone) (asks lone));
  }

  pub made_next : (calls : List Call) (n : ℕ) (before after : PassView) (call : Call) (answer : Answer) → n < length calls → call ≡ get_or calls n call → HasMade limits opening session (take n calls) before
      → Answered limits opening before after call answer → (limits.callers ≡ 1 → AsksLogFirst limits opening (row_of before call answer)) → HasMade limits opening session (take (n + 1) calls) after
  made_next calls n before after call answer low is made answered asks =
      subst (λ (made : List Call). HasMade limits opening session made after) (sym (take_more calls n call low ∙ ap (λ c. take n calls ++ c ∷ []) (sym is))) (made_more (take n calls) before after call answer made answered asks)

  -- one that was not
  pub made_same : (calls : List Call) (before after : PassView) → HasMade limits opening session calls before → Unanswered before after → HasMade limits opening session calls after
  made_same calls before after made unanswered = record {
    number = unanswered.number ∙ made.number;
    makes = ap calls_made unanswered.account ∙ made.makes;
    ended = unanswered.ended;
    asks = λ lone. subst (All (AsksLogFirst limits opening)) (sym unanswered.account) (made.asks lone);
  }

  -- the calls before a query that was not answered
  pub made_first : (calls : List Call) (n : ℕ) (pass : PassView) (call : Call) → n < length calls → call ≡ get_or calls n call → IsQuery call → HasMade limits opening session (take n calls) pass
      → HasMadeFirst limits opening session calls pass
  made_first calls n pass call low is query made = record {
    first = take n calls;
    rest = drop n calls;
    split = sym (take-append-drop n calls);
    made = made;
    stops = inr (subst (λ (l : List Call). IsSomeAnd (slice_get l 0) IsQuery) (sym (drop_more calls n call low ∙ ap (λ c. c ∷ drop (n + 1) calls) (sym is))) query);
  }

-- the row that was pushed is that of the account
pub rows_kept : (limits : Limits) (opening : Opening) (before after : PassView) (call : Call) (answer : Answer) (session number : ℕ) (rows new : List Row) → rows ≡ before.account → before.number ≡ session
    → number ≡ length rows → new ≡ rows ++ record { session = session; number = number; call = call; point = answer.point; reply = answer.reply } ∷ [] → Answered limits opening before after call answer → new ≡ after.account
rows_kept limits opening before after call answer session number rows new are mine count is answered =
    is ∙ (λ i. are i ++ record { session = sym mine i; number = (count ∙ ap length are) i; call = call; point = answer.point; reply = answer.reply } ∷ []) ∙ sym answered.adds.row
