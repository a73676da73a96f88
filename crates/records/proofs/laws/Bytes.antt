-- Laws of what specs/Bytes.antt defines: the bytes of records one behind the other.
use mathlib.Core.List.{List, [], ◌∷◌, ◌++◌, append_assoc}
use mathlib.Core.Path.{◌≡◌, refl}
use Rattle.house.specs.declared.Plan.{Plan}
use Rattle.records.specs.Rec.{Rec}
use Rattle.records.specs.Bytes.{encode_all}

pub encode_append : (P : Plan) (l k : List Rec) → encode_all P (l ++ k) ≡ encode_all P l ++ encode_all P k
unfolding encode_all
encode_append P [] k = refl
encode_append P (r ∷ l) k = rw (encode_append P l k, append_assoc)

pub encode_none : (P : Plan) → encode_all P [] ≡ []
unfolding encode_all
encode_none P = refl
