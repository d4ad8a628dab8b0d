-- The bodies of refusals: compact JSON, keys ascending.
use Rattle.std.specs.Prelude.{ℕ, List, ◌++◌, map, codes, decimal}
use Rattle.std.specs.List.{join_with_byte}

-- {"fault":"CODE"}
abbrev pub named_body : List ℕ → List ℕ
named_body code = codes "{\"fault\":\"" ++ code ++ codes "\"}"

-- numbers, with a comma between each two
abbrev pub place_text : List ℕ → List ℕ
place_text place = join_with_byte 44 (map decimal place)

-- {"fault":"CODE","place":[A,B,..]}
abbrev pub placed_body : List ℕ → List ℕ → List ℕ
placed_body code place =
    codes "{\"fault\":\"" ++ code ++ codes "\",\"place\":[" ++ place_text place ++ codes "]}"

-- {"asked":ASKED,"fault":"front","front":FRONT}
abbrev pub ahead_body : ℕ → ℕ → List ℕ
ahead_body asked front = codes "{\"asked\":" ++ decimal asked ++ codes ",\"fault\":\"front\",\"front\":" ++ decimal front ++ codes "}"

-- {"asked":PUSH,"fault":"limit","kept":KEPT,"limit":LIMIT}
abbrev pub limit_body : ℕ → ℕ → ℕ → List ℕ
limit_body push kept limit =
    codes "{\"asked\":" ++ decimal push ++ codes ",\"fault\":\"limit\",\"kept\":" ++ decimal kept ++ codes ",\"limit\":" ++ decimal limit ++ codes "}"
