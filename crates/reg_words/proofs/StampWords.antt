-- The fields of a stamp's word, and the word of its fields.
use Rattle.std.proofs.Common.{◌≡◌, ◌≢◌, ℕ, ◌+◌, ◌*◌, ◌/◌, ◌%◌, ◌<◌, sym, ap, ◌∙◌, refl, arith}
use Rattle.std.specs.Prelude.{◌↔◌}
use Rattle.reg_words.specs.declared.word.StampWord.{StampWord}
use Rattle.reg_words.specs.declared.word.StampWord.TheVariants.{Unborn, Live, Dead}
use Rattle.reg_words.specs.Packing.{FitsStamp, stamp_word}

-- a number in three fields: of 25 bits, of 4, and the rest
pub record HasFields (word dead kind born : ℕ) : Type 0 where
  pub dead_is : word % 33554432 ≡ dead
  pub kind_is : word / 33554432 % 16 ≡ kind
  pub born_is : word / 536870912 ≡ born

fields_of : (word dead kind born : ℕ) → dead < 33554432 → kind < 16 → word ≡ dead + 33554432 * kind + 536870912 * born → HasFields word dead kind born
fields_of word dead kind born d k e = record { dead_is = omega arith; kind_is = omega arith; born_is = omega arith }

-- a number is the sum of its fields
pub joined : (word : ℕ) → word % 33554432 + 33554432 * (word / 33554432 % 16) + 536870912 * (word / 536870912) ≡ word
joined word = omega arith

live_fields : (word kind id : ℕ) → FitsStamp (Live kind id) → stamp_word (Live kind id) ≡ word → HasFields word 0 kind (id + 1)
unfolding stamp_word
live_fields word kind id f e = let k = f.0 in fields_of word 0 kind (id + 1) (omega arith) (omega arith) (omega arith)

dead_fields : (word kind id death : ℕ) → FitsStamp (Dead kind id death) → stamp_word (Dead kind id death) ≡ word → HasFields word (death + 1) kind (id + 1)
unfolding stamp_word
dead_fields word kind id death f e = let k = f.0 in let d = f.2 in fields_of word (death + 1) kind (id + 1) d (omega arith) (omega arith)

-- only the word 0 has no id
pub born_fits : (word : ℕ) (s : StampWord) → FitsStamp s → stamp_word s ≡ word → word ≢ 0 → word / 536870912 ≢ 0
unfolding stamp_word
born_fits word Unborn f e some none = some (sym e)
born_fits word (Live kind id) f e some none = let h = live_fields word kind id f e in omega arith
born_fits word (Dead kind id death) f e some none = let h = dead_fields word kind id death f e in omega arith

pub kind_fits : (word : ℕ) (s : StampWord) → FitsStamp s → stamp_word s ≡ word → word / 33554432 % 16 < 13
unfolding stamp_word
kind_fits word Unborn f e = omega arith
kind_fits word (Live kind id) f e = let h = live_fields word kind id f e in let k = f.0 in omega arith
kind_fits word (Dead kind id death) f e = let h = dead_fields word kind id death f e in let k = f.0 in omega arith

-- the one stamp of a word, by what it has
pub unborn_back : (s : StampWord) → stamp_word s ≡ 0 → Unborn ≡ s
unfolding stamp_word
unborn_back Unborn e = refl
unborn_back (Live kind id) e = absurd (omega arith)
unborn_back (Dead kind id death) e = absurd (omega arith)

pub live_back :
    (word kind id : ℕ) (s : StampWord) →
    FitsStamp s →
    stamp_word s ≡ word →
    word ≢ 0 →
    word % 33554432 ≡ 0 →
    kind ≡ word / 33554432 % 16 →
    id + 1 ≡ word / 536870912 →
    Live kind id ≡ s
unfolding stamp_word
live_back word k i Unborn f e some dead k_is i_is = absurd (some (sym e))
live_back word k i (Live kind id) f e some dead k_is i_is =
    let h = live_fields word kind id f e in
    let id_is : i ≡ id = omega arith in
    λ j. Live ((k_is ∙ h.kind_is) j) (id_is j)
live_back word k i (Dead kind id death) f e some dead k_is i_is = let h = dead_fields word kind id death f e in absurd (omega arith)

pub dead_back :
    (word kind id death : ℕ) (s : StampWord) →
    FitsStamp s →
    stamp_word s ≡ word →
    death + 1 ≡ word % 33554432 →
    kind ≡ word / 33554432 % 16 →
    id + 1 ≡ word / 536870912 →
    Dead kind id death ≡ s
unfolding stamp_word
dead_back word k i d Unborn f e d_is k_is i_is = absurd (omega arith)
dead_back word k i d (Live kind id) f e d_is k_is i_is = let h = live_fields word kind id f e in absurd (omega arith)
dead_back word k i d (Dead kind id death) f e d_is k_is i_is =
    let h = dead_fields word kind id death f e in
    let id_is : i ≡ id = omega arith in
    let death_is : d ≡ death = omega arith in
    λ j. Dead ((k_is ∙ h.kind_is) j) (id_is j) (death_is j)

-- only `Unborn` is packed as 0
pub unborn_word : (s : StampWord) → (stamp_word s ≡ 0) ↔ (s ≡ Unborn)
unfolding stamp_word
unborn_word s = (λ e. sym (unborn_back s e), λ e. ap stamp_word e)

-- a word is of one stamp at most
pub one_stamp : (s t : StampWord) → FitsStamp s → FitsStamp t → stamp_word s ≡ stamp_word t → s ≡ t
unfolding stamp_word
one_stamp Unborn t f g e = unborn_back t (sym e)
one_stamp (Live kind id) t f g e =
    let h = live_fields (stamp_word (Live kind id)) kind id f refl in
    live_back (stamp_word (Live kind id)) kind id t g (sym e) (λ z. omega arith) h.dead_is (sym h.kind_is) (sym h.born_is)
one_stamp (Dead kind id death) t f g e =
    let h = dead_fields (stamp_word (Dead kind id death)) kind id death f refl in
    dead_back (stamp_word (Dead kind id death)) kind id death t g (sym e) (sym h.dead_is) (sym h.kind_is) (sym h.born_is)
