-- An image has one opening and no fault, and bytes without a fault are an image.
use Rattle.std.proofs.Common.{◌≡◌, ℕ, zero, suc, refl, ◌+◌, ◌*◌, ◌^◌, ◌<◌, ◌≤◌, Bool, true, false, not, List, [], ◌∷◌, ◌++◌, length, take, drop, Option, Some, None, sym, ◌∙◌, ap, ap₂, subst, inl, inr, Ok, Err, append_assoc, length-append, length-drop, arith}
use Rattle.std.specs.Prelude.{All, Result, ◌⊎◌, IfOk, MatchResult, nat_lt, ◌==◌, codes}
use Rattle.std.specs.List.{flat_map}
use Rattle.std.specs.Int.{w32, w64, to_be_bytes}
use Rattle.std.specs.Str.{bytes_eq}
use Rattle.std.proofs.lemmas.Bool.Decides.{nat_tests}
use Rattle.std.proofs.lemmas.Slice.Eq.{bytes_eq-Decides}
use Rattle.std.proofs.lemmas.List.Kept.{AllPairs-cons}
use Rattle.std.proofs.lemmas.List.Elements.{All-cons}
use Rattle.std.proofs.lemmas.List.{take_at, drop_at, take-append-drop, take_all}
use Rattle.blake3_core.specs.Compression.{compress}
use Rattle.blake3_core.specs.Tree.{hash, root_bytes}
use Rattle.reg_model.specs.declared.update.Declared.{Declared}
use Rattle.reg_model.specs.Opening.{Opening, IsOpening, IsRising, opening_of}
use Rattle.reg_model.proofs.Rising.{Within}
use Rattle.reg_image.specs.declared.image.TheConstants.{DECLARED_MOST}
use Rattle.reg_image.specs.declared.fault.ImageFault.{ImageFault}
use Rattle.reg_image.specs.declared.fault.ImageRefusal.{ImageRefusal}
use Rattle.reg_image.specs.declared.fault.ImageRefusal.TheVariants.{Fault, NoMemory}
use Rattle.reg_image.specs.declared.fault.ImageWhy.TheVariants.{Trailing}
use Rattle.reg_image.specs.Images.{declared_bytes, front_bytes, summed_bytes, image_bytes, IsImage}
use Rattle.reg_image.specs.ImageFaults.{number_at, base_of, count_of, sum_place, front_fault, declared_fault, trailing_fault, image_fault}
use Rattle.reg_image.specs.inner.Reading.{declared_list, image_opening}
use Rattle.reg_image.proofs.Pieces.{AreBytes, number-rest, version-rest, number-found, version-found}
use Rattle.reg_image.proofs.Listed.{AreUnits, AreIds, passed, both_none, length-listed, listed-rest, listed-found, length-bytes, read_sound, no_fault}

-- a hash has 32 bytes
pub length-hash : (bytes : List ℕ) → length (hash bytes) ≡ 32
unfolding hash root_bytes compress
length-hash bytes = refl

-- ---- what no fault before the declarations says

pub record HasFront (bytes : List ℕ) : Type 0 where
  pub long : 28 ≤ length bytes
  pub magic : take 8 bytes ≡ codes "ISCCREGI"
  pub version : number_at w32 8 bytes ≡ 1
  pub base : base_of bytes ≤ 2 ^ 34
  pub count : count_of bytes ≤ DECLARED_MOST
  pub room : sum_place bytes + 32 ≤ length bytes
  pub sum : take 32 (drop (sum_place bytes) bytes) ≡ hash (take (sum_place bytes) bytes)

not_true : (b : Bool) → not b ≡ false → b ≡ true
not_true true h = refl
not_true false h = absurd cc

pub front_of : (bytes : List ℕ) → front_fault bytes ≡ None → HasFront bytes
unfolding front_fault
front_of bytes h =
    let one = passed (nat_lt (length bytes) 28) _ _ h in
    let two = passed (not (bytes_eq (take 8 bytes) (codes "ISCCREGI"))) _ _ one.1 in
    let three = passed (not (number_at w32 8 bytes == 1)) _ _ two.1 in
    let four = passed (nat_lt (2 ^ 34) (base_of bytes)) _ _ three.1 in
    let five = passed (nat_lt DECLARED_MOST (count_of bytes)) _ _ four.1 in
    let six = passed (nat_lt (length bytes) (sum_place bytes + 32)) _ _ five.1 in
    let seven = passed (not (bytes_eq (take 32 (drop (sum_place bytes) bytes)) (hash (take (sum_place bytes) bytes)))) _ _ six.1 in
    record {
      long = grind (arith, nat_tests, one.0);
      magic = (bytes_eq-Decides _ _).0 (not_true _ two.0);
      version = grind (arith, nat_tests, not_true _ three.0);
      base = grind (arith, nat_tests, four.0);
      count = grind (arith, nat_tests, five.0);
      room = grind (arith, nat_tests, six.0);
      sum = (bytes_eq-Decides _ _).0 (not_true _ seven.0);
    }

pub front_none : (bytes : List ℕ) → HasFront bytes → front_fault bytes ≡ None
unfolding front_fault
front_none bytes f =
    let one : nat_lt (length bytes) 28 ≡ false = grind (arith, nat_tests, f.long) in
    let two : bytes_eq (take 8 bytes) (codes "ISCCREGI") ≡ true = (bytes_eq-Decides _ _).1 f.magic in
    let three : (number_at w32 8 bytes == 1) ≡ true = grind (arith, nat_tests, f.version) in
    let four : nat_lt (2 ^ 34) (base_of bytes) ≡ false = grind (arith, nat_tests, f.base) in
    let five : nat_lt DECLARED_MOST (count_of bytes) ≡ false = grind (arith, nat_tests, f.count) in
    let six : nat_lt (length bytes) (sum_place bytes + 32) ≡ false = grind (arith, nat_tests, f.room) in
    let seven : bytes_eq (take 32 (drop (sum_place bytes) bytes)) (hash (take (sum_place bytes) bytes)) ≡ true = (bytes_eq-Decides _ _).1 f.sum in
    rw (one, two, three, four, five, six, seven) refl

-- ---- lists by rising id

within_all : (low high : ℕ) (ds : List Declared) → low ≤ high → All (λ (d : Declared). low ≤ d.id) ds → IsRising ds → All (λ (d : Declared). d.id < high) ds → Within low high ds
within_all low high [] le above rising below = le
within_all low high (d ∷ ds) le above rising below = (
  above 0 d (omega arith),
  within_all (d.id + 1) high ds (omega (arith, below 0 d (omega arith)))
      (λ i e lt. omega (arith, rising zero (suc i) e (omega arith) (omega (arith, lt))))
      (λ i j e lt inside. rising (suc i) (suc j) e (omega (arith, lt)) (omega (arith, inside)))
      (λ i e lt. below (suc i) e (omega (arith, lt))),
)

record IsOrdered (low high : ℕ) (ds : List Declared) : Type 0 where
  above : All (λ (d : Declared). low ≤ d.id) ds
  rising : IsRising ds
  below : All (λ (d : Declared). d.id < high) ds

within_end : (low high : ℕ) (ds : List Declared) → Within low high ds → low ≤ high
within_end low high [] h = h
within_end low high (d ∷ ds) h = omega (arith, h.0, within_end (d.id + 1) high ds h.1)

ordered : (low high : ℕ) (ds : List Declared) → Within low high ds → IsOrdered low high ds
ordered low high [] h = record { above = λ i d lt. absurd (omega (arith, lt)); rising = λ i j d lt inside. absurd (omega (arith, inside)); below = λ i d lt. absurd (omega (arith, lt)) }
ordered low high (d ∷ ds) h =
    let rest = ordered (d.id + 1) high ds h.1 in
    let end = within_end (d.id + 1) high ds h.1 in
    record {
      above = All-cons (λ (e : Declared). low ≤ e.id) d ds h.0 (λ i e lt. omega (arith, h.0, rest.above i e lt));
      rising = AllPairs-cons (λ (a b : Declared). a.id < b.id) d ds (λ i e lt. omega (arith, rest.above i e lt)) rest.rising;
      below = All-cons (λ (e : Declared). e.id < high) d ds (omega (arith, end)) rest.below;
    }

-- ---- bytes without a fault are an image

-- the front, and the declarations, as they are written
summed : (bytes : List ℕ) → AreBytes bytes → HasFront bytes → take (sum_place bytes) bytes ≡ summed_bytes (image_opening bytes)
unfolding summed_bytes image_opening front_bytes
summed bytes range f =
    let count = count_of bytes in
    let list = declared_list 28 count bytes in
    let len = length-listed 28 count bytes in
    let behind = drop (sum_place bytes) bytes in
    let magic = codes "ISCCREGI" in
    let version = to_be_bytes w32 1 in
    let base = to_be_bytes w64 (base_of bytes) in
    let counted = to_be_bytes w64 count in
    let written = flat_map declared_bytes list in
    let from_28 : drop 28 bytes ≡ written ++ behind = sym (listed-rest 28 count bytes range (omega (arith, f.room))) in
    let from_20 : drop 20 bytes ≡ counted ++ drop 28 bytes = sym (number-rest 20 bytes range (omega (arith, f.long))) in
    let from_12 : drop 12 bytes ≡ base ++ drop 20 bytes = sym (number-rest 12 bytes range (omega (arith, f.long))) in
    let from_8 : drop 8 bytes ≡ version ++ drop 12 bytes = sym (version-rest 8 bytes range (omega (arith, f.long))) ∙ ap (λ n. to_be_bytes w32 n ++ drop 12 bytes) f.version in
    let from_0 : bytes ≡ magic ++ drop 8 bytes = sym (take-append-drop 8 bytes) ∙ ap (λ xs. xs ++ drop 8 bytes) f.magic in
    let whole : bytes ≡ magic ++ (version ++ (base ++ (counted ++ (written ++ behind)))) =
    from_0 ∙ ap (λ xs. magic ++ xs) (from_8 ∙ ap (λ xs. version ++ xs) (from_12 ∙ ap (λ xs. base ++ xs) (from_20 ∙ ap (λ xs. counted ++ xs) from_28))) in
    let parted = whole ∙ sym (joined magic version base counted written behind) in
    let size : length ((magic ++ (version ++ (base ++ counted))) ++ written) ≡ sum_place bytes = omega (arith, length-bytes list, len, length-append (magic ++ (version ++ (base ++ counted))) written) in
    ap (take (sum_place bytes)) parted ∙ take_at _ behind (sum_place bytes) size
    ∙ ap (λ n. (magic ++ (version ++ (base ++ to_be_bytes w64 n))) ++ written) (sym len)
  where
    joined : (a b c d e rest : List ℕ) → ((a ++ (b ++ (c ++ d))) ++ e) ++ rest ≡ a ++ (b ++ (c ++ (d ++ (e ++ rest))))
    joined a b c d e rest = simp append_assoc refl

pub image_of : (bytes : List ℕ) → AreBytes bytes → image_fault bytes ≡ None → IsImage (image_opening bytes) bytes
unfolding image_fault image_bytes image_opening
image_of bytes range h =
    let parts = both_none (front_fault bytes) _ h in
    let more = both_none (declared_fault (base_of bytes) None 28 (count_of bytes) bytes) (trailing_fault bytes) parts.1 in
    let f = front_of bytes parts.0 in
    let last = passed (nat_lt (sum_place bytes + 32) (length bytes)) _ _ more.1 in
    let end : length bytes ≤ sum_place bytes + 32 = grind (arith, nat_tests, last.0) in
    let read = read_sound (base_of bytes) None 28 (count_of bytes) bytes range (omega arith) more.0 in
    let order = ordered 0 (base_of bytes) (declared_list 28 (count_of bytes) bytes) read.within in
    let sums = summed bytes range f in
    let all_left : take 32 (drop (sum_place bytes) bytes) ≡ drop (sum_place bytes) bytes = take_all 32 (drop (sum_place bytes) bytes) (omega (arith, length-drop (sum_place bytes) bytes, end)) in
    record {
      opens = record { base = f.base; rising = order.rising; below = order.below };
      units = read.units;
      few = omega (arith, length-listed 28 (count_of bytes) bytes, f.count);
      is = sym (take-append-drop (sum_place bytes) bytes)
          ∙ ap₂ (λ front last. front ++ last) sums (sym all_left ∙ f.sum ∙ ap hash sums);
    }

-- ---- an image has one opening and no fault

-- the parts of an image, one behind the other
record HasParts (opening : Opening) (bytes : List ℕ) : Type 0 where
  base : base_of bytes ≡ opening.base
  count : count_of bytes ≡ length opening.list
  list : declared_list 28 (length opening.list) bytes ≡ opening.list
  magic : take 8 bytes ≡ codes "ISCCREGI"
  version : number_at w32 8 bytes ≡ 1
  size : length bytes ≡ 28 + 17 * length opening.list + 32
  front : take (28 + 17 * length opening.list) bytes ≡ summed_bytes opening
  behind : drop (28 + 17 * length opening.list) bytes ≡ hash (summed_bytes opening)

length-summed : (opening : Opening) → length (summed_bytes opening) ≡ 28 + 17 * length opening.list
unfolding summed_bytes front_bytes
length-summed opening =
    omega (arith, length-bytes opening.list, length-append (front_bytes opening.base (length opening.list)) (flat_map declared_bytes opening.list))

parts_of : (opening : Opening) (bytes : List ℕ) → IsImage opening bytes → HasParts opening bytes
unfolding image_bytes summed_bytes front_bytes
parts_of opening bytes image =
    let count = length opening.list in
    let sum = hash (summed_bytes opening) in
    let len = length-summed opening in
    let ids : AreIds opening.list = λ i d lt. omega (arith, image.opens.below i d lt, image.opens.base) in
    let magic = codes "ISCCREGI" in
    let version = to_be_bytes w32 1 in
    let base = to_be_bytes w64 opening.base in
    let counted = to_be_bytes w64 count in
    let written = flat_map declared_bytes opening.list in
    let whole : bytes ≡ magic ++ (version ++ (base ++ (counted ++ (written ++ sum)))) = image.is ∙ spelled opening sum in
    let at_8 : bytes ≡ magic ++ (version ++ (base ++ (counted ++ (written ++ sum)))) = whole in
    let at_12 : bytes ≡ (magic ++ version) ++ (base ++ (counted ++ (written ++ sum))) = at_8 ∙ sym (append_assoc magic version (base ++ (counted ++ (written ++ sum)))) in
    let at_20 : bytes ≡ ((magic ++ version) ++ base) ++ (counted ++ (written ++ sum)) = at_12 ∙ sym (append_assoc (magic ++ version) base (counted ++ (written ++ sum))) in
    let at_28 : bytes ≡ (((magic ++ version) ++ base) ++ counted) ++ (written ++ sum) = at_20 ∙ sym (append_assoc ((magic ++ version) ++ base) counted (written ++ sum)) in
    record {
      base = number-found (magic ++ version) (counted ++ (written ++ sum)) bytes 12 opening.base (omega (arith, image.opens.base)) refl at_12;
      count = number-found ((magic ++ version) ++ base) (written ++ sum) bytes 20 count (omega (arith, image.few)) refl at_20;
      list = listed-found (((magic ++ version) ++ base) ++ counted) sum bytes 28 opening.list ids image.units refl at_28;
      magic = ap (take 8) whole ∙ take_at magic (version ++ (base ++ (counted ++ (written ++ sum)))) 8 refl;
      version = version-found magic (base ++ (counted ++ (written ++ sum))) bytes 8 1 (omega arith) refl at_8;
      size = ap length image.is ∙ length-append (summed_bytes opening) sum ∙ ap₂ (λ m n. m + n) len (length-hash (summed_bytes opening));
      front = ap (take (28 + 17 * count)) image.is ∙ take_at (summed_bytes opening) sum (28 + 17 * count) len;
      behind = ap (drop (28 + 17 * count)) image.is ∙ drop_at (summed_bytes opening) sum (28 + 17 * count) len;
    }
  where
    joined : (a b c d e rest : List ℕ) → ((a ++ (b ++ (c ++ d))) ++ e) ++ rest ≡ a ++ (b ++ (c ++ (d ++ (e ++ rest))))
    joined a b c d e rest = simp append_assoc refl

    spelled : (opening : Opening) (rest : List ℕ) → summed_bytes opening ++ rest
        ≡ codes "ISCCREGI" ++ (to_be_bytes w32 1 ++ (to_be_bytes w64 opening.base ++ (to_be_bytes w64 (length opening.list) ++ (flat_map declared_bytes opening.list ++ rest))))
    spelled opening rest = joined (codes "ISCCREGI") (to_be_bytes w32 1) (to_be_bytes w64 opening.base) (to_be_bytes w64 (length opening.list)) (flat_map declared_bytes opening.list) rest

-- an image is of what it opens
pub opening_is : (opening : Opening) (bytes : List ℕ) → IsImage opening bytes → image_opening bytes ≡ opening
unfolding image_opening
opening_is opening bytes image =
    let p = parts_of opening bytes image in
    ap₂ (λ base count. opening_of base (declared_list 28 count bytes)) p.base p.count ∙ ap (λ list. opening_of opening.base list) p.list

-- and has no fault
pub image_none : (opening : Opening) (bytes : List ℕ) → IsImage opening bytes → image_fault bytes ≡ None
unfolding image_fault
image_none opening bytes image =
    let p = parts_of opening bytes image in
    let place : sum_place bytes ≡ 28 + 17 * length opening.list = omega (arith, p.count) in
    let left : drop (sum_place bytes) bytes ≡ hash (summed_bytes opening) = ap (λ n. drop n bytes) place ∙ p.behind in
    let front : front_fault bytes ≡ None = front_none bytes (record {
      long = omega (arith, p.size);
      magic = p.magic;
      version = p.version;
      base = omega (arith, p.base, image.opens.base);
      count = omega (arith, p.count, image.few);
      room = omega (arith, p.size, place);
      sum = ap (take 32) left ∙ take_all 32 (hash (summed_bytes opening)) (omega (arith, length-hash (summed_bytes opening))) ∙ ap hash (sym (ap (λ n. take n bytes) place ∙ p.front));
    }) in
    let within : Within 0 opening.base opening.list =
    within_all 0 opening.base opening.list (omega arith) (λ i d lt. omega arith) image.opens.rising image.opens.below in
    let none : declared_fault (base_of bytes) None 28 (count_of bytes) bytes ≡ None =
    ap₂ (λ base count. declared_fault base None 28 count bytes) p.base p.count ∙ no_fault opening.base None 28 opening.list bytes within image.units p.list in
    let end : nat_lt (sum_place bytes + 32) (length bytes) ≡ false = grind (arith, nat_tests, p.size, place) in
    rw (front, none, end) refl

-- ---- the laws

pub one_opening : (a b : Opening) (bytes : List ℕ) → IsImage a bytes → IsImage b bytes → a ≡ b
one_opening a b bytes first second = sym (opening_is a bytes first) ∙ opening_is b bytes second

-- ---- the first fault, stage by stage

pub fault_in_front : (bytes : List ℕ) (fault : ImageFault) → front_fault bytes ≡ Some fault → image_fault bytes ≡ Some fault
unfolding image_fault
fault_in_front bytes fault is = rw is refl

pub fault_in_list : (bytes : List ℕ) (base count : ℕ) (fault : ImageFault) → front_fault bytes ≡ None → base ≡ base_of bytes → count ≡ count_of bytes
    → declared_fault base None 28 count bytes ≡ Some fault → image_fault bytes ≡ Some fault
unfolding image_fault
fault_in_list bytes base count fault front base_is count_is found =
    let there : declared_fault (base_of bytes) None 28 (count_of bytes) bytes ≡ Some fault = ap₂ (λ b n. declared_fault b None 28 n bytes) (sym base_is) (sym count_is) ∙ found in
    rw (front, there) refl

pub fault_behind : (bytes : List ℕ) (base count : ℕ) → front_fault bytes ≡ None → base ≡ base_of bytes → count ≡ count_of bytes → declared_fault base None 28 count bytes ≡ None
    → 28 + 17 * count + 32 < length bytes → image_fault bytes ≡ Some (record { at = 28 + 17 * count + 32; why = Trailing })
unfolding image_fault
fault_behind bytes base count front base_is count_is sound more =
    let there : declared_fault (base_of bytes) None 28 (count_of bytes) bytes ≡ None = ap₂ (λ b n. declared_fault b None 28 n bytes) (sym base_is) (sym count_is) ∙ sound in
    let place : sum_place bytes + 32 ≡ 28 + 17 * count + 32 = omega (arith, count_is) in
    let end : nat_lt (sum_place bytes + 32) (length bytes) ≡ true = grind (arith, nat_tests, more, place) in
    rw (front, there, end) (ap (λ n. Some (record { at = n; why = Trailing })) place)

pub none_at_all : (bytes : List ℕ) (base count : ℕ) → front_fault bytes ≡ None → base ≡ base_of bytes → count ≡ count_of bytes → declared_fault base None 28 count bytes ≡ None
    → length bytes ≤ 28 + 17 * count + 32 → image_fault bytes ≡ None
unfolding image_fault
none_at_all bytes base count front base_is count_is sound end =
    let there : declared_fault (base_of bytes) None 28 (count_of bytes) bytes ≡ None = ap₂ (λ b n. declared_fault b None 28 n bytes) (sym base_is) (sym count_is) ∙ sound in
    let last : nat_lt (sum_place bytes + 32) (length bytes) ≡ false = grind (arith, nat_tests, end, count_is) in
    rw (front, there, last) refl

-- what is read, as the opening of the bytes
pub opening_read : (bytes : List ℕ) (base count : ℕ) (list : List Declared) → base ≡ base_of bytes → count ≡ count_of bytes → list ≡ declared_list 28 count bytes → opening_of base list ≡ image_opening bytes
unfolding image_opening
opening_read bytes base count list base_is count_is list_is = ap₂ opening_of base_is (list_is ∙ ap (λ n. declared_list 28 n bytes) count_is)

-- ---- what a reader answers

-- a fault that is told is the one that is meant
pub told_is : {A : Type 0} (told fault : ImageFault) → ◌≡◌ {A = Result A ImageRefusal} (Err (Fault told)) (Err (Fault fault)) → told ≡ fault
told_is {A} told fault e = ap (the_fault told) e
  where
    the_fault : ImageFault → Result A ImageRefusal → ImageFault
    the_fault f (Ok t) = f
    the_fault f (Err (Fault g)) = g
    the_fault f (Err NoMemory) = f

-- no bytes have two first faults
same_fault : (bytes : List ℕ) (told fault : ImageFault) → image_fault bytes ≡ Some told → image_fault bytes ≡ Some fault → told ≡ fault
same_fault bytes told fault a b = ap (the_fault told) (sym a ∙ b)
  where
    the_fault : ImageFault → Option ImageFault → ImageFault
    the_fault f None = f
    the_fault f (Some g) = g

-- nor a fault and none
not_both : {A : Type 0} (bytes : List ℕ) (fault : ImageFault) → image_fault bytes ≡ None → image_fault bytes ≡ Some fault → A
not_both bytes fault a b = absurd (some_none (sym b ∙ a))
  where
    some_none : {f : ImageFault} → Some f ≡ None → ⊥
    some_none e = absurd cc

-- what is said of an answer, from whether it is an opening or a fault
pub told : (bytes : List ℕ) (result : Result Opening ImageRefusal) → AreBytes bytes
    → IfOk result (λ opening. (image_fault bytes ≡ None) × (opening ≡ image_opening bytes))
    → ((fault : ImageFault) → result ≡ Err (Fault fault) → image_fault bytes ≡ Some fault)
    → record {
      image : IfOk result (λ opening. IsImage opening bytes);
      fault : (fault : ImageFault) → result ≡ Err (Fault fault) → image_fault bytes ≡ Some fault;
      refuses : (fault : ImageFault) → image_fault bytes ≡ Some fault → (result ≡ Err (Fault fault)) ⊎ (result ≡ Err NoMemory);
      accepts : (opening : Opening) → IsImage opening bytes → MatchResult result (λ carried. carried ≡ opening) (λ refusal. refusal ≡ NoMemory);
    }
told bytes (Ok opening) range ok fault = record {
  image = subst (λ o. IsImage o bytes) (sym ok.1) (image_of bytes range ok.0);
  fault = fault;
  refuses = λ f is. not_both bytes f ok.0 is;
  accepts = λ other image. ok.1 ∙ opening_is other bytes image;
}
told bytes (Err (Fault f)) range ok fault = record {
  image = tt;
  fault = fault;
  refuses = λ other is. inl (ap (λ g. Err (Fault g)) (same_fault bytes f other (fault f refl) is));
  accepts = λ other image. not_both bytes f (image_none other bytes image) (fault f refl);
}
told bytes (Err NoMemory) range ok fault = record {
  image = tt;
  fault = fault;
  refuses = λ other is. inr refl;
  accepts = λ other image. refl;
}

-- ---- what a writer makes

pub written : (opening : Opening) (list : List Declared) (base : ℕ) (start front listed shown sum bytes : List ℕ) → IsOpening opening → list ≡ opening.list → base ≡ opening.base
    → AreUnits list → length opening.list ≤ DECLARED_MOST → start ≡ [] → front ≡ start ++ front_bytes base (length list) → listed ≡ front ++ flat_map declared_bytes list
    → shown ≡ listed → sum ≡ hash shown → bytes ≡ listed ++ sum → IsImage opening bytes
unfolding image_bytes summed_bytes
written opening list base start front listed shown sum bytes opens list_is base_is units few start_is front_is listed_is shown_is sum_is bytes_is =
    let front_there : front ≡ front_bytes opening.base (length opening.list) = front_is ∙ ap (λ xs. xs ++ front_bytes base (length list)) start_is ∙ ap₂ (λ b ds. front_bytes b (length ds)) base_is list_is in
    let all : listed ≡ summed_bytes opening = listed_is ∙ ap₂ (λ xs ds. xs ++ flat_map declared_bytes ds) front_there list_is in
    record {
      opens = opens;
      units = subst AreUnits list_is units;
      few = few;
      is = bytes_is ∙ ap₂ (λ xs ys. xs ++ ys) all (sum_is ∙ ap hash (shown_is ∙ all));
    }
