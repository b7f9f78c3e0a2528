-- The words of a round with nothing carried yet, filled one after another.
use Rattle.std.proofs.Common.{◌≡◌, ◌≢◌, ℕ, ◌+◌, ◌<◌, ⊎_elim, false, true≢false, List, [], length, get_or, set, cond, Bool, ne_eqb, replicate, sym, ap, ◌∙◌, refl, arith, length-set}
use Rattle.std.proofs.Math.Decide.{dec_lt}
use Rattle.std.proofs.lemmas.List.{get_or-replicate, get_or_past, length-replicate}
use mathlib.Core.Logic.{dite}
use native.Mathlib.Decide.{ℕ_discrete}
use Rattle.reg_words.specs.Packing.{stamp_word}
use Rattle.reg_words.specs.declared.word.StampWord.TheVariants.{Unborn}
use Rattle.reg_words.specs.Memory.{TAKE, PUT, SWEEP, PIN, HEAD, STAMP, GIVE, LOG, size, whole, start, mem, set_at, write}
use Rattle.reg_words.proofs.Memory.{mem-read, mem-past, mem-write, set_at-here, set_at-else}
use Rattle.atomic_table.specs.Table.{opening}
use Rattle.reg_rule.specs.declared.view.Key.{Key}
use Rattle.reg_rule.specs.inner.Rule.{KeyPart, Kept, sizes, first}
use Rattle.reg_rule.specs.inner.Opening.{Opened, Filling}
use Rattle.reg_rule.proofs.Opens.{opens, opening_world}

-- the first places of the ring are filled, with the entries behind what is carried
pub record Filled (key : Key) (words : List ℕ) (i : ℕ) : Type 0 where
  pub wide : length words ≡ 1 + whole (sizes key)
  pub gives : (j : ℕ) → j < i → mem (sizes key) words GIVE j ≡ length key.carried.list + j
  pub put_is : mem (sizes key) words PUT 0 + length key.carried.list ≡ key.entries
  pub others : (a k : ℕ) → a ≢ PUT → a ≢ GIVE → mem (sizes key) words a k ≡ 0

zeros_read : (n i : ℕ) → get_or {A = ℕ} (replicate n 0) i 0 ≡ 0
zeros_read n i = dite (dec_lt i n) (λ l. get_or-replicate {A = ℕ} n i 0 0 l) (λ g. get_or_past {X = ℕ} (replicate n 0) i 0 (let long = length-replicate {A = ℕ} n 0 in omega arith))

zeros : (ns : List ℕ) (n a k : ℕ) → mem ns (replicate n 0) a k ≡ 0
zeros ns n a k = dite (dec_lt k (size ns a)) (λ l. mem-read ns (replicate n 0) a k l ∙ zeros_read n (start ns a + k)) (λ g. mem-past ns (replicate n 0) a k (omega arith))

-- another area is not written
written_else : (m : ℕ → ℕ → ℕ) (a k x b j : ℕ) → b ≢ a → write m a k x b j ≡ m b j
written_else m a k x b j ne = ap (λ (t : Bool). cond t (set_at (m b) k x) (m b) j) (ne_eqb b a ne)

pub filled_none : (key : Key) (n x at : ℕ) (zeroed words : List ℕ) → n ≡ 1 + whole (sizes key) → x + length key.carried.list ≡ key.entries → at ≡ start (sizes key) PUT + 0 → zeroed ≡ replicate {A = ℕ} n 0 → words ≡ set zeroed at x → Filled key words 0
filled_none key n x at zeroed words size_is x_is at_is zeroed_is after =
    let is : words ≡ set (replicate {A = ℕ} n 0) 2 x = after ∙ (λ i. set (zeroed_is i) (at_is i) x) in let before : List ℕ = replicate n 0 in let long : length before ≡ 1 + whole (sizes key) = length-replicate {A = ℕ} n 0 ∙ size_is in
    let w : mem (sizes key) words ≡ write (mem (sizes key) before) PUT 0 x = ap (mem (sizes key)) is ∙ mem-write (sizes key) before PUT 0 x long (omega arith) in record {
      wide = ap length is ∙ (length-set before 2 x ∙ long);
      gives = λ j low. absurd (omega arith);
      put_is = ap (λ (y : ℕ). y + length key.carried.list) (ap (λ (m : ℕ → ℕ → ℕ). m PUT 0) w ∙ set_at-here (mem (sizes key) before PUT) 0 x) ∙ x_is;
      others = λ a k not_put not_give. ap (λ (m : ℕ → ℕ → ℕ). m a k) w ∙ (written_else (mem (sizes key) before) PUT 0 x a k not_put ∙ zeros (sizes key) n a k);
    }

pub filled_more : (key : Key) (i x at : ℕ) (words after : List ℕ) → Filled key words i → i < key.entries → x ≡ length key.carried.list + i → at ≡ start (sizes key) GIVE + i → after ≡ set words at x → Filled key after (i + 1)
filled_more key i x at words after f low x_is at_is is =
    let m : ℕ → ℕ → ℕ = mem (sizes key) words in
    let w : mem (sizes key) after ≡ write m GIVE i x = ap (mem (sizes key)) (is ∙ ap (λ (a : ℕ). set words a x) at_is) ∙ mem-write (sizes key) words GIVE i x f.wide low in record {
      wide = ap length is ∙ (length-set words at x ∙ f.wide);
      gives = λ j below. ap (λ (m : ℕ → ℕ → ℕ). m GIVE j) w ∙ dite (ℕ_discrete j i)
          (λ same. ap (write m GIVE i x GIVE) same ∙ (set_at-here (m GIVE) i x ∙ (x_is ∙ ap (λ (y : ℕ). length key.carried.list + y) (sym same))))
          (λ apart. set_at-else (m GIVE) i x j apart ∙ f.gives j (omega arith));
      put_is = ap (λ (y : ℕ). y + length key.carried.list) (ap (λ (m : ℕ → ℕ → ℕ). m PUT 0) w) ∙ f.put_is;
      others = λ a k not_put not_give. ap (λ (m : ℕ → ℕ → ℕ). m a k) w ∙ (written_else m GIVE i x a k not_give ∙ f.others a k not_put not_give);
    }

abbrev no_chains : ℕ → ℕ → List ℕ
no_chains table bucket = []

abbrev none_linked : ℕ → ℕ → Bool
none_linked table entry = false

-- once all places are filled, what is carried can be written
pub filled_all : (key : Key) (words : List ℕ) (i : ℕ) → i + length key.carried.list ≡ key.entries → Filled key words i → Filling key words 0 0 0
filled_all key words i all f = record {
  wide = f.wide;
  chains = no_chains;
  linked = none_linked;
  kinds = λ e d low. absurd (omega arith);
  carried = record {
    take_is = f.others TAKE 0 (λ e. omega arith) (λ e. omega arith);
    put_is = f.put_is;
    sweep_is = f.others SWEEP 0 (λ e. omega arith) (λ e. omega arith);
    pins = λ n. f.others PIN n (λ e. omega arith) (λ e. omega arith);
    places = λ n. f.others LOG n (λ e. omega arith) (λ e. omega arith);
    gives = λ j low. f.gives j (omega arith);
    codes = λ e d low. absurd (omega arith);
    stamps_in = λ e d low. absurd (omega arith);
    stamps_out = λ e high. f.others STAMP e (λ e. omega arith) (λ e. omega arith);
    chained = record {
      leads = λ table bucket low inside. f.others HEAD _ (λ e. omega arith) (λ e. omega arith);
      once = λ table bucket. tt;
      inside = λ table bucket entry member. absurd member;
      tables = λ table bucket entry member. absurd member;
      whole = λ table entry low inside is. absurd (true≢false (sym is));
    };
  };
  most = λ t e is. absurd (true≢false (sym is));
  all = λ t e low below. absurd (⊎_elim (λ (l : t < 0). let r : ⊥ = omega arith in r) (λ (b : (t ≡ 0) × (e < 0)). let l = b.1 in let r : ⊥ = omega arith in r) below);
}

pub stamp_word-unborn : stamp_word Unborn ≡ 0
unfolding stamp_word
stamp_word-unborn = refl

-- ---- the rule of a new table

pub opens_table : (key : Key) (words : List ℕ) (chains : ℕ → ℕ → List ℕ) → KeyPart key → length words ≡ 1 + whole (sizes key) → Opened key (mem (sizes key) words) chains → Kept key (opening words [] (first key))
opens_table key words chains part wide o = record { wide = wide; world = opening_world key (mem (sizes key) words) chains; inv = opens key (mem (sizes key) words) chains part o }
