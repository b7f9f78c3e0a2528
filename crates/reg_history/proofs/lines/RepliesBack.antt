-- From the text of a reply back to the reply.
use Rattle.std.proofs.Common.{◌≡◌, ℕ, ◌<◌, true, List, [], ◌∷◌, ◌++◌, map, drop, length, refl, sym, ◌∙◌, ap, ap₂, lit<, arith, append_assoc, length-append}
use Rattle.std.specs.Prelude.{All, codes}
use Rattle.std.specs.List.{flat_map}
use Rattle.std.specs.Fmt.{decimal}
use Rattle.std.proofs.lemmas.Fmt.{decimal_injective}
use Rattle.std.proofs.lemmas.List.{map-id}
use Rattle.std.proofs.lemmas.List.Elements.{All-head, All-tail, All-map, All-weaker}
use Rattle.std.proofs.lemmas.Simd.{map-map}
use Rattle.iscc_header.specs.declared.unit.Unit64.{Unit64}
use Rattle.iscc_text.specs.UnitText.{unit_text}
use Rattle.iscc_text.proofs.OneUnit.{same_unit}
use Rattle.reg_model.specs.declared.reply.Hit.{Hit}
use Rattle.reg_model.specs.declared.reply.Reply.{Reply}
use Rattle.reg_model.specs.declared.reply.Reply.TheVariants as replies
use Rattle.reg_model.specs.declared.reply.FullCause.TheVariants.{Log, Entries}
use Rattle.reg_requests.specs.Lines.{spaced, hit_text, reply_text}
use Rattle.reg_history.specs.declared.lines.told.ToldReply.{ToldReply}
use Rattle.reg_history.specs.declared.lines.told.ToldReply.TheVariants.{Hits, Plain}
use Rattle.reg_history.specs.declared.lines.told.ToldHit.{ToldHit}
use Rattle.reg_history.specs.lines.Values.{IsHitValue, IsReplyValue}
use Rattle.reg_history.specs.lines.HistoryLines.{told_hit_text, told_reply_text, IsToldHitValue, IsToldReplyValue, hit_in}
use Rattle.reg_history.proofs.lines.WordsBack.{free, free-cons, free-append, first, cut, cut_piece, decimal_free, unit_free}

-- ---- hits

abbrev told_made : ℕ → ℕ → Unit64 → ToldHit
told_made id distance unit = record { id = id; distance = distance; unit = unit }

-- no byte of a hit's text is below that of a comma
told_hit_free : (c : ℕ) (hit : ToldHit) → c < 44 → free c (told_hit_text hit) ≡ true
told_hit_free c hit h =
    let comma : free c (codes ",") ≡ true = free-cons c 44 [] h refl in
    let id = decimal_free c hit.id (omega arith) in
    let distance = decimal_free c hit.distance (omega arith) in
    let unit = unit_free c hit.unit (omega arith) in
    free-append c _ (unit_text hit.unit)
    (free-append c _ (codes ",")
    (free-append c _ (decimal hit.distance)
    (free-append c (decimal hit.id) (codes ",") id comma)
    distance)
    comma)
    unit

-- the parts of a hit's text
grouped : (id distance unit : List ℕ) → id ++ codes "," ++ distance ++ codes "," ++ unit ≡ id ++ 44 ∷ (distance ++ 44 ∷ unit)
grouped id distance unit = simp append_assoc

same_told_hit : (a b : ToldHit) → IsToldHitValue a → IsToldHitValue b → told_hit_text a ≡ told_hit_text b → a ≡ b
same_told_hit a b h k e =
    let whole : decimal a.id ++ 44 ∷ (decimal a.distance ++ 44 ∷ unit_text a.unit) ≡ decimal b.id ++ 44 ∷ (decimal b.distance ++ 44 ∷ unit_text b.unit) =
    sym (grouped (decimal a.id) (decimal a.distance) (unit_text a.unit)) ∙ e ∙ grouped (decimal b.id) (decimal b.distance) (unit_text b.unit) in
    let id = cut 44 (decimal a.id) (decimal b.id) _ _ (decimal_free 44 a.id (lit< tt)) (decimal_free 44 b.id (lit< tt)) whole in
    let distance = cut 44 (decimal a.distance) (decimal b.distance) _ _ (decimal_free 44 a.distance (lit< tt)) (decimal_free 44 b.distance (lit< tt)) id.1 in
    ap₂ (λ i d. told_made i d a.unit) (decimal_injective a.id b.id h.id k.id id.0) (decimal_injective a.distance b.distance h.distance k.distance distance.0)
    ∙ ap (told_made b.id b.distance) (same_unit a.unit b.unit h.unit k.unit distance.1)

-- ---- words, a space behind each

abbrev pub ended : List ℕ → List ℕ
ended word = word ++ 32 ∷ []

spaced_ended : (word : List ℕ) (words : List (List ℕ)) → ended (spaced (word ∷ words)) ≡ word ++ 32 ∷ flat_map ended words
spaced_ended word [] = refl
spaced_ended word (next ∷ words) =
    append_assoc word (32 ∷ spaced (next ∷ words)) (32 ∷ [])
    ∙ ap (λ t. word ++ 32 ∷ t) (spaced_ended next words ∙ sym (append_assoc next (32 ∷ []) (flat_map ended words)))

some_word : (word : List ℕ) (rest : List ℕ) → ended word ++ rest ≡ [] → ⊥
some_word word rest e = absurd (omega (arith, ap length e, length-append (ended word) rest, length-append word (32 ∷ [])))

same_told_hits : (a b : List ToldHit) → All IsToldHitValue a → All IsToldHitValue b → flat_map ended (map told_hit_text a) ≡ flat_map ended (map told_hit_text b) → a ≡ b
same_told_hits [] [] h k e = refl
same_told_hits [] (y ∷ b) h k e = absurd (some_word (told_hit_text y) (flat_map ended (map told_hit_text b)) (sym e))
same_told_hits (x ∷ a) [] h k e = absurd (some_word (told_hit_text x) (flat_map ended (map told_hit_text a)) e)
same_told_hits (x ∷ a) (y ∷ b) h k e =
    let parts = cut_piece 32 (told_hit_text x) (told_hit_text y) _ _ (told_hit_free 32 x (lit< tt)) (told_hit_free 32 y (lit< tt)) e in
    ap₂ (λ z zs. z ∷ zs)
    (same_told_hit x y (All-head IsToldHitValue x a h) (All-head IsToldHitValue y b k) parts.0)
    (same_told_hits a b (All-tail IsToldHitValue x a h) (All-tail IsToldHitValue y b k) parts.1)

-- hits behind a number
abbrev hits_text : ℕ → List ToldHit → List ℕ
hits_text n hits = spaced (decimal n ∷ map told_hit_text hits)

counted_hits : (m n : ℕ) (a b : List ToldHit) → All IsToldHitValue a → All IsToldHitValue b → hits_text m a ≡ hits_text n b → a ≡ b
counted_hits m n a b h k e =
    let whole : decimal m ++ 32 ∷ flat_map ended (map told_hit_text a) ≡ decimal n ++ 32 ∷ flat_map ended (map told_hit_text b) =
    sym (spaced_ended (decimal m) (map told_hit_text a)) ∙ ap ended e ∙ spaced_ended (decimal n) (map told_hit_text b) in
    let parts = cut 32 (decimal m) (decimal n) _ _ (decimal_free 32 m (lit< tt)) (decimal_free 32 n (lit< tt)) whole in
    same_told_hits a b h k parts.1

words_free : (word : List ℕ) (hits : List ToldHit) → free 10 word ≡ true → free 10 (spaced (word ∷ map told_hit_text hits)) ≡ true
words_free word [] f = f
words_free word (hit ∷ hits) f = free-append 10 word (32 ∷ spaced (map told_hit_text (hit ∷ hits))) f (words_free (told_hit_text hit) hits (told_hit_free 10 hit (lit< tt)))

hits_free : (n : ℕ) (hits : List ToldHit) → free 10 (hits_text n hits) ≡ true
hits_free n hits = words_free (decimal n) hits (decimal_free 10 n (lit< tt))

-- ---- hits of one kind

-- the hit with its unit
abbrev told : ℕ → Hit → ToldHit
told kind hit = told_made hit.id hit.distance (record { kind = kind; body = hit.body })

kind_text : (kind n : ℕ) (hits : List Hit) → spaced (decimal n ∷ map (hit_text kind) hits) ≡ hits_text n (map (told kind) hits)
kind_text kind n hits = ap (λ words. spaced (decimal n ∷ words)) (sym (map-map told_hit_text (told kind) hits))

untold : (kind : ℕ) (hits : List Hit) → map hit_in (map (told kind) hits) ≡ hits
untold kind hits = map-map hit_in (told kind) hits ∙ map-id hits

told_values : (kind : ℕ) (hits : List Hit) → kind < 13 → All IsHitValue hits → All IsToldHitValue (map (told kind) hits)
told_values kind hits low h =
    All-map IsToldHitValue (told kind) hits
    (All-weaker IsHitValue (λ hit. IsToldHitValue (told kind hit)) (λ hit v. record { id = v.id; distance = v.distance; unit = record { kind = low; body = v.body } }) hits h)

kind_hits : (kind m n : ℕ) (a b : List Hit) → kind < 13 → All IsHitValue a → All IsHitValue b
    → spaced (decimal m ∷ map (hit_text kind) a) ≡ spaced (decimal n ∷ map (hit_text kind) b) → a ≡ b
kind_hits kind m n a b low h k e =
    let same = counted_hits m n (map (told kind) a) (map (told kind) b) (told_values kind a low h) (told_values kind b low k) (sym (kind_text kind m a) ∙ e ∙ kind_text kind n b) in
    sym (untold kind a) ∙ ap (map hit_in) same ∙ untold kind b

-- ---- replies

-- the first byte of a reply
abbrev initial : Reply → ℕ
initial (replies.Id id) = 105
initial (replies.Withdrawn id) = 119
initial (replies.Absent id) = 110
initial (replies.Hits hits) = 104
initial (replies.Live unit) = 108
initial (replies.Count count) = 99
initial replies.Reached = 114
initial replies.Ahead = 97
initial (replies.Full cause) = 102

first_is : (kind : ℕ) (reply : Reply) → first (reply_text kind reply) ≡ initial reply
first_is kind (replies.Full Log) = refl
first_is kind (replies.Full (Entries given)) = refl
first_is kind reply = refl

pub same_reply : (kind : ℕ) (a b : Reply) → kind < 13 → IsReplyValue a → IsReplyValue b → reply_text kind a ≡ reply_text kind b → a ≡ b
same_reply kind (replies.Id m) (replies.Id n) low h k e = ap (λ i. replies.Id i) (decimal_injective m n h k (ap (drop 3) e))
same_reply kind (replies.Withdrawn m) (replies.Withdrawn n) low h k e = ap (λ i. replies.Withdrawn i) (decimal_injective m n h k (ap (drop 10) e))
same_reply kind (replies.Absent m) (replies.Absent n) low h k e = ap (λ i. replies.Absent i) (decimal_injective m n h k (ap (drop 5) e))
same_reply kind (replies.Hits a) (replies.Hits b) low h k e = ap (λ hits. replies.Hits hits) (kind_hits kind (length a) (length b) a b low h k (ap (drop 5) e))
same_reply kind (replies.Live u) (replies.Live v) low h k e = ap (λ w. replies.Live w) (same_unit u v h k (ap (drop 5) e))
same_reply kind (replies.Count m) (replies.Count n) low h k e = ap (λ i. replies.Count i) (decimal_injective m n h k (ap (drop 6) e))
same_reply kind replies.Reached replies.Reached low h k e = refl
same_reply kind replies.Ahead replies.Ahead low h k e = refl
same_reply kind (replies.Full Log) (replies.Full Log) low h k e = refl
same_reply kind (replies.Full Log) (replies.Full (Entries n)) low h k e = absurd (omega (arith, ap (λ t. first (drop 5 t)) e))
same_reply kind (replies.Full (Entries m)) (replies.Full Log) low h k e = absurd (omega (arith, ap (λ t. first (drop 5 t)) e))
same_reply kind (replies.Full (Entries m)) (replies.Full (Entries n)) low h k e = ap (λ i. replies.Full (Entries i)) (decimal_injective m n h k (ap (drop 13) e))
same_reply kind a b low h k e = absurd (omega (arith, sym (first_is kind a) ∙ ap first e ∙ first_is kind b))

-- ---- no line feed in a reply

pub reply_free : (kind : ℕ) (reply : Reply) → free 10 (reply_text kind reply) ≡ true
reply_free kind (replies.Id id) = decimal_free 10 id (lit< tt)
reply_free kind (replies.Withdrawn id) = decimal_free 10 id (lit< tt)
reply_free kind (replies.Absent id) = decimal_free 10 id (lit< tt)
reply_free kind (replies.Hits hits) = rw (kind_text kind (length hits) hits) (hits_free (length hits) (map (told kind) hits))
reply_free kind (replies.Live unit) = unit_free 10 unit (lit< tt)
reply_free kind (replies.Count count) = decimal_free 10 count (lit< tt)
reply_free kind replies.Reached = refl
reply_free kind replies.Ahead = refl
reply_free kind (replies.Full Log) = refl
reply_free kind (replies.Full (Entries given)) = decimal_free 10 given (lit< tt)

-- ---- replies with whole units

pub told_reply_free : (reply : ToldReply) → free 10 (told_reply_text reply) ≡ true
told_reply_free (Hits hits) = hits_free (length hits) hits
told_reply_free (Plain reply) = reply_free 0 reply

-- a reply but hits has a text of its own
plain_first : (reply : Reply) → IsToldReplyValue (Plain reply) → 104 ≡ first (reply_text 0 reply) → ⊥
plain_first (replies.Hits hits) h e = h
plain_first (replies.Full Log) h e = absurd (omega (arith, e))
plain_first (replies.Full (Entries given)) h e = absurd (omega (arith, e))
plain_first reply h e = absurd (omega (arith, e))

plain_value : (reply : Reply) → IsToldReplyValue (Plain reply) → IsReplyValue reply
plain_value (replies.Hits hits) h = absurd h
plain_value reply h = h

pub same_told_reply : (a b : ToldReply) → IsToldReplyValue a → IsToldReplyValue b → told_reply_text a ≡ told_reply_text b → a ≡ b
same_told_reply (Hits a) (Hits b) h k e = ap (λ hits. Hits hits) (counted_hits (length a) (length b) a b h k (ap (drop 5) e))
same_told_reply (Hits a) (Plain b) h k e = absurd (plain_first b k (ap first e))
same_told_reply (Plain a) (Hits b) h k e = absurd (plain_first a h (sym (ap first e)))
same_told_reply (Plain a) (Plain b) h k e = ap (λ reply. Plain reply) (same_reply 0 a b (lit< tt) (plain_value a h) (plain_value b k) e)
