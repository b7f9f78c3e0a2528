-- The fields of a log word, and the word of its fields.
use Rattle.std.proofs.Common.{◌≡◌, ◌≢◌, ℕ, ◌+◌, ◌*◌, ◌/◌, ◌%◌, ◌<◌, sym, ◌∙◌, refl, arith}
use Rattle.reg_words.specs.declared.word.LogWord.{LogWord}
use Rattle.reg_words.specs.declared.word.LogWord.TheVariants.{Decl, Wd}
use Rattle.reg_words.specs.Packing.{FitsLog, log_word}

-- a number in four fields: of 2 bits, of 4, of 20, and the rest
pub record HasFields (word tag kind entry id : ℕ) : Type 0 where
  pub tag_is : word % 4 ≡ tag
  pub kind_is : word / 4 % 16 ≡ kind
  pub entry_is : word / 64 % 1048576 ≡ entry
  pub id_is : word / 67108864 ≡ id

fields_of : (word tag kind entry id : ℕ) → tag < 4 → kind < 16 → entry < 1048576 → word ≡ tag + 4 * kind + 64 * entry + 67108864 * id → HasFields word tag kind entry id
fields_of word tag kind entry id t k n e = record { tag_is = omega arith; kind_is = omega arith; entry_is = omega arith; id_is = omega arith }

-- a number is the sum of its fields
pub joined : (word : ℕ) → word % 4 + 4 * (word / 4 % 16) + 64 * (word / 64 % 1048576) + 67108864 * (word / 67108864) ≡ word
joined word = omega arith

decl_fields : (word kind entry id : ℕ) → FitsLog (Decl kind entry id) → log_word (Decl kind entry id) ≡ word → HasFields word 1 kind entry id
unfolding log_word
decl_fields word kind entry id f e = let k = f.0 in let n = f.1 in fields_of word 1 kind entry id (omega arith) (omega arith) n (omega arith)

wd_fields : (word entry id : ℕ) → FitsLog (Wd entry id) → log_word (Wd entry id) ≡ word → HasFields word 2 0 entry id
unfolding log_word
wd_fields word entry id f e = let n = f.0 in fields_of word 2 0 entry id (omega arith) (omega arith) n (omega arith)

-- what the packing of a record has: an id that fits, a kind that is one, and one of two tags
pub id_fits : (word : ℕ) (w : LogWord) → FitsLog w → log_word w ≡ word → word / 67108864 < 34359738368
id_fits word (Decl kind entry id) f e = let h = decl_fields word kind entry id f e in let i = f.2 in omega arith
id_fits word (Wd entry id) f e = let h = wd_fields word entry id f e in let i = f.1 in omega arith

pub kind_fits : (word : ℕ) (w : LogWord) → FitsLog w → log_word w ≡ word → word / 4 % 16 < 13
kind_fits word (Decl kind entry id) f e = let h = decl_fields word kind entry id f e in let k = f.0 in omega arith
kind_fits word (Wd entry id) f e = let h = wd_fields word entry id f e in omega arith

pub low_fits : (word : ℕ) (w : LogWord) → FitsLog w → log_word w ≡ word → word % 4 ≢ 1 → word % 64 ≡ 2
low_fits word (Decl kind entry id) f e other = let h = decl_fields word kind entry id f e in absurd (other h.tag_is)
low_fits word (Wd entry id) f e other = let h = wd_fields word entry id f e in omega arith

-- the one record of a word, by its tag
pub decl_back :
    (word kind entry id : ℕ) (w : LogWord) →
    FitsLog w →
    log_word w ≡ word →
    word % 4 ≡ 1 →
    kind ≡ word / 4 % 16 →
    entry ≡ word / 64 % 1048576 →
    id ≡ word / 67108864 →
    Decl kind entry id ≡ w
decl_back word k n i (Decl kind entry id) f e tag k_is n_is i_is =
    let h = decl_fields word kind entry id f e in
    λ j. Decl ((k_is ∙ h.kind_is) j) ((n_is ∙ h.entry_is) j) ((i_is ∙ h.id_is) j)
decl_back word k n i (Wd entry id) f e tag k_is n_is i_is = let h = wd_fields word entry id f e in absurd (omega arith)

pub wd_back :
    (word entry id : ℕ) (w : LogWord) →
    FitsLog w →
    log_word w ≡ word →
    word % 4 ≡ 2 →
    entry ≡ word / 64 % 1048576 →
    id ≡ word / 67108864 →
    Wd entry id ≡ w
wd_back word n i (Decl kind entry id) f e tag n_is i_is = let h = decl_fields word kind entry id f e in absurd (omega arith)
wd_back word n i (Wd entry id) f e tag n_is i_is = let h = wd_fields word entry id f e in λ j. Wd ((n_is ∙ h.entry_is) j) ((i_is ∙ h.id_is) j)

-- a word is of one record at most
pub one_record : (v w : LogWord) → FitsLog v → FitsLog w → log_word v ≡ log_word w → v ≡ w
one_record (Decl kind entry id) w f g e =
    let h = decl_fields (log_word (Decl kind entry id)) kind entry id f refl in
    decl_back (log_word (Decl kind entry id)) kind entry id w g (sym e) h.tag_is (sym h.kind_is) (sym h.entry_is) (sym h.id_is)
one_record (Wd entry id) w f g e =
    let h = wd_fields (log_word (Wd entry id)) entry id f refl in
    wd_back (log_word (Wd entry id)) entry id w g (sym e) h.tag_is (sym h.entry_is) (sym h.id_is)

-- and 0 is of none
pub no_record : (w : LogWord) → log_word w ≢ 0
unfolding log_word
no_record (Decl kind entry id) e = omega arith
no_record (Wd entry id) e = omega arith
