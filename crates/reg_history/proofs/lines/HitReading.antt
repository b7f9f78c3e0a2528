-- The words of hits, one after the other.
use Rattle.std.proofs.Common.{◌≡◌, ◌<◌, ℕ, List, [], ◌∷◌, ◌++◌, refl, sym, ◌∙◌, ap, ap₂, ◌^◌, lit<, arith, append_assoc, append-nil, length}
use Rattle.std.specs.Prelude.{All, codes}
use Rattle.std.specs.Fmt.{decimal}
use Rattle.std.specs.List.{flat_map}
use Rattle.std.proofs.lemmas.List.Elements.{All-nil, All-head, All-tail, All-push}
use Rattle.iscc_header.specs.declared.unit.Unit64.{Unit64}
use Rattle.iscc_text.specs.UnitText.{unit_text}
use Rattle.reg_history.specs.declared.lines.told.ToldHit.{ToldHit}
use Rattle.reg_history.specs.inner.Bytes.{first, IsValueText}
use Rattle.reg_history.proofs.lines.ValueReading.{unit_value}
use Rattle.reg_history.specs.lines.HistoryLines.{told_hit_text, IsToldHitValue}

-- the hits with a space before each, and the line feed
abbrev pub hits_words : List ToldHit → List ℕ
hits_words hits = flat_map (λ (hit : ToldHit). 32 ∷ told_hit_text hit) hits ++ 10 ∷ []

pub first_of_words : (hits : List ToldHit) → first (hits_words hits) < 48
first_of_words [] = lit< tt
first_of_words (hit ∷ hits) = lit< tt

no_more : (read more hits : List ToldHit) (rest : List ℕ) → hits ≡ read ++ more → rest ≡ hits_words more → (first rest ≡ 32 → ⊥) → read ≡ hits
no_more read [] hits rest e is end = sym (append-nil read) ∙ sym e
no_more read (hit ∷ more) hits rest e is end = absurd (end (ap first is))

next_hit : (read more hits : List ToldHit) (rest word behind : List ℕ) (hit : ToldHit) → All IsToldHitValue more → hits ≡ read ++ more → rest ≡ hits_words more
    → first rest ≡ 32 → ((left : List ℕ) → rest ≡ 32 ∷ left → word ≡ left)
    → ((is : ToldHit) (left : List ℕ) → IsToldHitValue is → first left < 48 → word ≡ told_hit_text is ++ left → (hit ≡ is) × (behind ≡ left))
    → (others : List ToldHit) × All IsToldHitValue others × (hits ≡ (read ++ hit ∷ []) ++ others) × (behind ≡ hits_words others)
next_hit read [] hits rest word behind hit h e is space left reads = absurd (omega (arith, space, ap first is))
next_hit read (next ∷ more) hits rest word behind hit h e is space left reads =
    let whole : word ≡ told_hit_text next ++ hits_words more = left _ is ∙ append_assoc (told_hit_text next) (flat_map (λ (hit : ToldHit). 32 ∷ told_hit_text hit) more) (10 ∷ []) in
    let parts = reads next (hits_words more) (All-head IsToldHitValue next more h) (first_of_words more) whole in
    (more, All-tail IsToldHitValue next more h, e ∙ ap (λ t. read ++ t ∷ more) (sym parts.0) ∙ sym (append_assoc read (hit ∷ []) more), parts.1)

-- if the words are those of hits, then these begin with what is read, and the rest is that of the others
pub record HitsSoFar (words : List ℕ) (read : List ToldHit) (rest : List ℕ) : Type 0 where
  pub values : All IsToldHitValue read
  pub others : (hits : List ToldHit) → All IsToldHitValue hits → words ≡ hits_words hits
      → (more : List ToldHit) × All IsToldHitValue more × (hits ≡ read ++ more) × (rest ≡ hits_words more)

pub none_so_far : (words : List ℕ) → HitsSoFar words [] words
none_so_far words = record { values = All-nil IsToldHitValue; others = λ hits h e. (hits, h, refl, e) }

-- behind a space stands one hit more
pub one_more : (words : List ℕ) (read : List ToldHit) (rest word behind : List ℕ) (hit : ToldHit) → HitsSoFar words read rest → first rest ≡ 32
    → ((left : List ℕ) → rest ≡ 32 ∷ left → word ≡ left) → IsToldHitValue hit
    → ((is : ToldHit) (left : List ℕ) → IsToldHitValue is → first left < 48 → word ≡ told_hit_text is ++ left → (hit ≡ is) × (behind ≡ left))
    → HitsSoFar words (read ++ hit ∷ []) behind
one_more words read rest word behind hit so_far space left value reads = record {
  values = All-push IsToldHitValue read hit so_far.values value;
  others = λ hits h e. let before = so_far.others hits h e in next_hit read before.0 hits rest word behind hit before.1 before.2 before.3 space left reads;
}

-- behind a space that no hit follows, these are no words of hits
pub no_hit : (words : List ℕ) (read : List ToldHit) (rest word : List ℕ) → HitsSoFar words read rest → first rest ≡ 32 → ((left : List ℕ) → rest ≡ 32 ∷ left → word ≡ left)
    → ((is : ToldHit) (left : List ℕ) → IsToldHitValue is → first left < 48 → word ≡ told_hit_text is ++ left → ⊥)
    → (hits : List ToldHit) → All IsToldHitValue hits → words ≡ hits_words hits → read ≡ hits
no_hit words read rest word so_far space left none hits h e =
    let before = so_far.others hits h e in absurd (refuted before.0 before.1 before.3)
  where
    refuted : (more : List ToldHit) → All IsToldHitValue more → rest ≡ hits_words more → ⊥
    refuted [] all is = omega (arith, space, ap first is)
    refuted (next ∷ more) all is =
        none next (hits_words more) (All-head IsToldHitValue next more all) (first_of_words more)
        (left _ is ∙ append_assoc (told_hit_text next) (flat_map (λ (hit : ToldHit). 32 ∷ told_hit_text hit) more) (10 ∷ []))

-- where no space follows these were all
pub all_hits : (words : List ℕ) (read : List ToldHit) (rest : List ℕ) → HitsSoFar words read rest → (first rest ≡ 32 → ⊥)
    → (hits : List ToldHit) → All IsToldHitValue hits → words ≡ hits_words hits → read ≡ hits
all_hits words read rest so_far end hits h e = let before = so_far.others hits h e in no_more read before.0 hits rest before.2 before.3 end

-- a text that begins with a space isn't empty
pub some_left : (rest : List ℕ) → first rest ≡ 32 → 0 < length rest
some_left [] e = absurd (omega (arith, e))
some_left (x ∷ rest) e = omega arith

-- ---- one hit

-- what a text that begins with a hit has: its numbers, the letters of its unit, and the rest
pub hit_parts : (hit : ToldHit) (text one two rest left letters : List ℕ) (id distance : ℕ) → IsToldHitValue hit → first rest < 48 → text ≡ told_hit_text hit ++ rest
    → ((n : ℕ) (r : List ℕ) → n < 2 ^ 64 → first r < 48 → text ≡ codes "" ++ (decimal n ++ r) → (id ≡ n) × (one ≡ r))
    → ((n : ℕ) (r : List ℕ) → n < 2 ^ 64 → first r < 48 → one ≡ codes "," ++ (decimal n ++ r) → (distance ≡ n) × (two ≡ r))
    → ((value r : List ℕ) → IsValueText value → first r < 48 → two ≡ codes "," ++ (value ++ r) → (letters ≡ value) × (left ≡ r))
    → ((id ≡ hit.id) × (distance ≡ hit.distance)) × ((letters ≡ unit_text hit.unit) × (left ≡ rest))
hit_parts hit text one two rest left letters id distance h low e first_number second_number unit =
    let behind_distance = 44 ∷ (unit_text hit.unit ++ rest) in
    let behind_id = 44 ∷ (decimal hit.distance ++ behind_distance) in
    let whole : text ≡ decimal hit.id ++ behind_id = e ∙ grouped (decimal hit.id) (decimal hit.distance) (unit_text hit.unit) rest in
    let a = first_number hit.id behind_id h.id (lit< tt) whole in
    let b = second_number hit.distance behind_distance h.distance (lit< tt) a.1 in
    let d = unit (unit_text hit.unit) rest (unit_value hit.unit) low b.1 in
    ((a.0, b.0), d)
  where
    grouped : (i d u r : List ℕ) → (i ++ codes "," ++ d ++ codes "," ++ u) ++ r ≡ i ++ 44 ∷ (d ++ 44 ∷ (u ++ r))
    grouped i d u r = simp append_assoc

abbrev hit_made : ℕ → ℕ → Unit64 → ToldHit
hit_made id distance unit = record { id = id; distance = distance; unit = unit }

pub hit_is : (hit : ToldHit) (id distance : ℕ) (unit : Unit64) → id ≡ hit.id → distance ≡ hit.distance → unit ≡ hit.unit → hit_made id distance unit ≡ hit
hit_is hit id distance unit e f g = ap₂ (λ i d. hit_made i d unit) e f ∙ ap (hit_made hit.id hit.distance) g
