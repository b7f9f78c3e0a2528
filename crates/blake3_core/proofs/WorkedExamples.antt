-- Hashes that b3sum gives, so that a wrong constant, flag or step in the definitions does not check.
use Rattle.std.proofs.Common.{◌≡◌, [], ◌∷◌, codes, refl}
use Rattle.blake3_core.specs.Compression.{compress, mixed, permuted, quarter_round, round, rounds, word_at}
use Rattle.blake3_core.specs.Tree.{block_words, chunk_output, hash, node_value, parent_output, root_bytes, subtree, tree, value_after}

pub hash_of_nothing : hash [] ≡
    0xAF ∷ 0x13 ∷ 0x49 ∷ 0xB9 ∷ 0xF5 ∷ 0xF9 ∷ 0xA1 ∷ 0xA6 ∷ 0xA0 ∷ 0x40 ∷ 0x4D ∷ 0xEA ∷ 0x36 ∷ 0xDC ∷ 0xC9 ∷ 0x49 ∷
    0x9B ∷ 0xCB ∷ 0x25 ∷ 0xC9 ∷ 0xAD ∷ 0xC1 ∷ 0x12 ∷ 0xB7 ∷ 0xCC ∷ 0x9A ∷ 0x93 ∷ 0xCA ∷ 0xE4 ∷ 0x1F ∷ 0x32 ∷ 0x62 ∷ []
unfolding block_words chunk_output compress hash mixed node_value parent_output permuted quarter_round root_bytes round rounds subtree tree value_after word_at
hash_of_nothing = refl

pub hash_of_abc : hash (codes "abc") ≡
    0x64 ∷ 0x37 ∷ 0xB3 ∷ 0xAC ∷ 0x38 ∷ 0x46 ∷ 0x51 ∷ 0x33 ∷ 0xFF ∷ 0xB6 ∷ 0x3B ∷ 0x75 ∷ 0x27 ∷ 0x3A ∷ 0x8D ∷ 0xB5 ∷
    0x48 ∷ 0xC5 ∷ 0x58 ∷ 0x46 ∷ 0x5D ∷ 0x79 ∷ 0xDB ∷ 0x03 ∷ 0xFD ∷ 0x35 ∷ 0x9C ∷ 0x6C ∷ 0xD5 ∷ 0xBD ∷ 0x9D ∷ 0x85 ∷ []
unfolding block_words chunk_output compress hash mixed node_value parent_output permuted quarter_round root_bytes round rounds subtree tree value_after word_at
hash_of_abc = refl
