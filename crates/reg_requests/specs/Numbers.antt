-- Numbers in digits.
use Rattle.std.specs.Prelude.{ℕ, ◌<◌, ◌≤◌, ◌^◌, List, length}
use Rattle.std.specs.Str.Parse.{AllDigits, digits_value}

-- 1 to 20 decimal digits with a value below 2 ^ 64; leading zeros are allowed
pub record IsNumber (word : List ℕ) : Type 0 where
  pub some : 0 < length word
  pub few : length word ≤ 20
  pub digits : AllDigits 10 word
  pub value : digits_value 10 word < 2 ^ 64
