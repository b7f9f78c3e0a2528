-- The replies to sessions, one session after another, and one round after another.
use Rattle.std.proofs.Common.{◌≡◌, ℕ, ◌+◌, ◌<◌, ◌≤◌, min, List, [], ◌∷◌, ◌++◌, length, get_or, drop, refl, sym, ◌∙◌, ap, append-nil, arith}
use Rattle.std.specs.Prelude.{codes}
use Rattle.std.specs.Fmt.{decimal}
use Rattle.std.proofs.lemmas.List.{append_assoc, drop_more, length-drop}
use Rattle.reg_model.specs.declared.reply.Row.{Row}
use Rattle.reg_model.specs.declared.round.Round.{Round}
use Rattle.reg_requests.specs.declared.items.Item.{Item}
use Rattle.reg_requests.specs.Lines.{line, spaced}
use Rattle.reg_top.specs.commands.Run.{item_lines}
use Rattle.reg_top.specs.inner.RunRounds.{account_texts, round_texts}

-- ---- sessions

abbrev one_text : ℕ → ℕ → List Item → List Row → List ℕ
one_text round session list account = line (spaced (codes "replies" ∷ decimal round ∷ decimal session ∷ [])) ++ item_lines list account

-- one more session
pub texts_more : (round k : ℕ) (lists : List (List Item)) (accounts : List (List Row)) (list : List Item) (account : List Row) (out new all : List ℕ) → k < length lists → k < length accounts
    → list ≡ get_or lists k list → account ≡ get_or accounts k account → new ≡ out ++ (line (spaced (codes "replies" ∷ decimal round ∷ decimal k ∷ [])) ++ item_lines list account)
    → out ++ account_texts round k (drop k lists) (drop k accounts) ≡ all → new ++ account_texts round (k + 1) (drop (k + 1) lists) (drop (k + 1) accounts) ≡ all
texts_more round k lists accounts list account out new all low few list_is account_is printed so_far =
    let rest = account_texts round (k + 1) (drop (k + 1) lists) (drop (k + 1) accounts) in
    let here = drop_more lists k list low ∙ ap (λ l. l ∷ drop (k + 1) lists) (sym list_is) in
    let there = drop_more accounts k account few ∙ ap (λ a. a ∷ drop (k + 1) accounts) (sym account_is) in
    ap (λ t. t ++ rest) printed ∙ (append_assoc out (one_text round k list account) rest ∙ (ap (λ t. out ++ t) (λ i. account_texts round k (sym here i) (sym there i)) ∙ so_far))

-- where one of the lists is empty there is no text
no_texts : (round session : ℕ) (lists : List (List Item)) (accounts : List (List Row)) → (1 ≤ length lists → 1 ≤ length accounts → ⊥) → account_texts round session lists accounts ≡ []
no_texts round session [] accounts none = refl
no_texts round session (list ∷ lists) [] none = refl
no_texts round session (list ∷ lists) (account ∷ accounts) none = absurd (none (omega arith) (omega arith))

-- no session is left
pub texts_done : (round k : ℕ) (lists : List (List Item)) (accounts : List (List Row)) (out all : List ℕ) → min (length lists) (length accounts) ≤ k
    → out ++ account_texts round k (drop k lists) (drop k accounts) ≡ all → out ≡ all
texts_done round k lists accounts out all past so_far =
    let none = no_texts round k (drop k lists) (drop k accounts) (λ some few. omega (arith, past, some, few, length-drop k lists, length-drop k accounts)) in
    sym (append-nil out) ∙ (ap (λ t. out ++ t) (sym none) ∙ so_far)

-- ---- rounds

-- one more round
pub rounds_more : (k : ℕ) (lists : List (List (List Item))) (rounds : List Round) (list : List (List Item)) (round : Round) (out new all : List ℕ) → k < length lists → k < length rounds
    → list ≡ get_or lists k list → round ≡ get_or rounds k round → new ≡ out ++ account_texts k 0 list round.accounts
    → out ++ round_texts k (drop k lists) (drop k rounds) ≡ all → new ++ round_texts (k + 1) (drop (k + 1) lists) (drop (k + 1) rounds) ≡ all
rounds_more k lists rounds list round out new all low few list_is round_is printed so_far =
    let rest = round_texts (k + 1) (drop (k + 1) lists) (drop (k + 1) rounds) in
    let here = drop_more lists k list low ∙ ap (λ l. l ∷ drop (k + 1) lists) (sym list_is) in
    let there = drop_more rounds k round few ∙ ap (λ r. r ∷ drop (k + 1) rounds) (sym round_is) in
    ap (λ t. t ++ rest) printed ∙ (append_assoc out (account_texts k 0 list round.accounts) rest ∙ (ap (λ t. out ++ t) (λ i. round_texts k (sym here i) (sym there i)) ∙ so_far))

-- where one of the lists is empty there is no text
no_rounds : (number : ℕ) (lists : List (List (List Item))) (rounds : List Round) → (1 ≤ length lists → 1 ≤ length rounds → ⊥) → round_texts number lists rounds ≡ []
no_rounds number [] rounds none = refl
no_rounds number (list ∷ lists) [] none = refl
no_rounds number (list ∷ lists) (round ∷ rounds) none = absurd (none (omega arith) (omega arith))

-- no round is left
pub rounds_done : (k : ℕ) (lists : List (List (List Item))) (rounds : List Round) (out all : List ℕ) → min (length rounds) (length lists) ≤ k
    → out ++ round_texts k (drop k lists) (drop k rounds) ≡ all → out ≡ all
rounds_done k lists rounds out all past so_far =
    let none = no_rounds k (drop k lists) (drop k rounds) (λ some few. omega (arith, past, some, few, length-drop k lists, length-drop k rounds)) in
    sym (append-nil out) ∙ (ap (λ t. out ++ t) (sym none) ∙ so_far)
