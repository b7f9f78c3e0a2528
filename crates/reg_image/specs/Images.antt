-- The image of what a run leaves: one list of bytes. All its numbers are big-endian.
use Rattle.std.specs.Prelude.{◌≡◌, ℕ, ◌≤◌, List, ◌∷◌, ◌++◌, length, codes, All}
use Rattle.std.specs.Int.{to_be_bytes, w32, w64}
use Rattle.std.specs.List.{flat_map}
use Rattle.iscc_header.specs.Unit64s.{IsUnit64}
use Rattle.blake3_core.specs.Tree.{hash}
use Rattle.reg_model.specs.declared.update.Declared.{Declared}
use Rattle.reg_model.specs.Opening.{Opening, IsOpening}
use Rattle.reg_image.specs.declared.image.TheConstants.{DECLARED_MOST}

-- a declaration: its id in 8 bytes, the number of its kind in one, and its body in 8
unfoldable pub declared_bytes : Declared → List ℕ
declared_bytes d = to_be_bytes w64 d.id ++ (d.unit.kind ∷ to_be_bytes w64 d.unit.body)

-- what stands before the declarations: `ISCCREGI`, the version 1, the base, and how many declarations there are
unfoldable pub front_bytes : ℕ → ℕ → List ℕ
front_bytes base count = codes "ISCCREGI" ++ (to_be_bytes w32 1 ++ (to_be_bytes w64 base ++ to_be_bytes w64 count))

-- what the sum is of: these, and the declarations by id
unfoldable pub summed_bytes : Opening → List ℕ
summed_bytes opening = front_bytes opening.base (length opening.list) ++ flat_map declared_bytes opening.list

-- these bytes, and their BLAKE3 hash
unfoldable pub image_bytes : Opening → List ℕ
image_bytes opening = summed_bytes opening ++ hash (summed_bytes opening)

-- The bytes are the image of a base and carried declarations, of which there are at most 2^20 (`DECLARED_MOST`).
pub record IsImage (opening : Opening) (bytes : List ℕ) : Type 0 where
  pub opens : IsOpening opening
  pub units : All (λ (d : Declared). IsUnit64 d.unit) opening.list
  pub few : length opening.list ≤ DECLARED_MOST
  pub is : bytes ≡ image_bytes opening
