-- Replies at the front of a text.
use Rattle.std.proofs.Common.{◌≡◌, ◌<◌, ◌^◌, ℕ, List, [], ◌∷◌, ◌++◌, length, sym, ◌∙◌, ap, lit<, arith, append_assoc}
use Rattle.std.specs.Prelude.{All, codes}
use Rattle.std.specs.List.{flat_map}
use Rattle.std.specs.Fmt.{decimal}
use Rattle.reg_model.specs.declared.reply.FullCause.{FullCause}
use Rattle.reg_model.specs.declared.reply.FullCause.TheVariants.{Log, Entries}
use Rattle.reg_model.specs.declared.reply.Reply.{Reply}
use Rattle.reg_model.specs.declared.reply.Reply.TheVariants.{Full}
use Rattle.reg_model.specs.declared.reply.Reply.TheVariants as replies
use Rattle.reg_requests.specs.Lines.{reply_text}
use Rattle.reg_requests.proofs.Texts.{spaced-map}
use Rattle.reg_history.specs.declared.lines.told.ToldHit.{ToldHit}
use Rattle.reg_history.specs.declared.lines.told.ToldReply.{ToldReply}
use Rattle.reg_history.specs.declared.lines.told.ToldReply.TheVariants.{Hits, Plain}
use Rattle.reg_history.specs.inner.Bytes.{first, IsValueText}
use Rattle.reg_history.specs.lines.HistoryLines.{told_hit_text, told_reply_text, IsToldHitValue, IsToldReplyValue}
use Rattle.reg_history.specs.lines.Values.{IsReplyValue}
use Rattle.reg_history.proofs.lines.ValueReading.{decimal_value}
use Rattle.reg_history.proofs.lines.HitReading.{hits_words, first_of_words}

-- what isn't `full log` is `full entries`
pub full_read : (cause : FullCause) (text behind after : List ℕ) (byte n : ℕ) → IsReplyValue (Full cause) → text ≡ reply_text 0 (Full cause) ++ 10 ∷ []
    → ((rest : List ℕ) → text ≡ codes "full " ++ rest → behind ≡ rest) → byte ≡ first behind → (byte ≡ 108 → ⊥)
    → ((m : ℕ) (rest : List ℕ) → m < 2 ^ 64 → first rest < 48 → text ≡ codes "full entries " ++ (decimal m ++ rest) → (n ≡ m) × (after ≡ rest))
    → Entries n ≡ cause
full_read Log text behind after byte n h e left is other reads = absurd (other (is ∙ ap first (left (codes "log\n") e)))
full_read (Entries given) text behind after byte n h e left is other reads = let parts = reads given (10 ∷ []) h (lit< tt) e in ap (λ i. Entries i) parts.0

-- only hits begin with that letter
plain_other : (reply : Reply) → IsToldReplyValue (Plain reply) → first (reply_text 0 reply ++ 10 ∷ []) ≡ 104 → ⊥
plain_other (replies.Hits hits) h e = h
plain_other (Full Log) h e = absurd (omega (arith, e))
plain_other (Full (Entries given)) h e = absurd (omega (arith, e))
plain_other reply h e = absurd (omega (arith, e))

hits_text : (hits : List ToldHit) → told_reply_text (Hits hits) ++ 10 ∷ [] ≡ codes "hits " ++ (decimal (length hits) ++ hits_words hits)
hits_text hits =
    ap (λ t. codes "hits " ++ (t ++ 10 ∷ [])) (spaced-map told_hit_text (decimal (length hits)) hits)
    ∙ ap (λ t. codes "hits " ++ t) (append_assoc (decimal (length hits)) (flat_map (λ (hit : ToldHit). 32 ∷ told_hit_text hit) hits) (10 ∷ []))

-- what begins with that letter is hits
pub hits_read : (reply : ToldReply) (text count words : List ℕ) (found : List ToldHit) → IsToldReplyValue reply → text ≡ told_reply_text reply ++ 10 ∷ []
    → first text ≡ 104
    → ((value rest : List ℕ) → IsValueText value → first rest < 48 → text ≡ codes "hits " ++ (value ++ rest) → (count ≡ value) × (words ≡ rest))
    → ((hits : List ToldHit) → All IsToldHitValue hits → words ≡ hits_words hits → found ≡ hits)
    → Hits found ≡ reply
hits_read (Hits hits) text count words found h e letter behind reads =
    let parts = behind (decimal (length hits)) (hits_words hits) (decimal_value (length hits)) (first_of_words hits) (e ∙ hits_text hits) in
    ap (λ hs. Hits hs) (reads hits h parts.1)
hits_read (Plain reply) text count words found h e letter behind reads = absurd (plain_other reply h (sym (ap first e) ∙ letter))

-- what doesn't is a plain reply
pub plain_read : (reply : ToldReply) (text : List ℕ) (found : Reply) → IsToldReplyValue reply → text ≡ told_reply_text reply ++ 10 ∷ []
    → (first text ≡ 104 → ⊥) → ((is : Reply) → IsToldReplyValue (Plain is) → text ≡ reply_text 0 is ++ 10 ∷ [] → found ≡ is) → Plain found ≡ reply
plain_read (Hits hits) text found h e other reads = absurd (other (ap first e))
plain_read (Plain reply) text found h e other reads = ap (λ r. Plain r) (reads reply h e)
