-- What stands before the data of a frame.
use Rattle.std.specs.Prelude.{◌≡◌, refl, List, [], ◌∷◌, ◌++◌, ℕ, length}
use Rattle.buffer.specs.Byte.{digits2, digits3}
use Rattle.frames.specs.Checksum.{closed}
use Rattle.frames.specs.declared.HeadV1.{HeadV1}
use Rattle.frames.specs.declared.HeadV2.{HeadV2}
use Rattle.frame_writer.specs.Written.{frame_v2, frame_v1, carries_v2, carries_v1, frame_written, written_v2, written_v1}

-- the bytes before the data, told how many data there are
unfoldable pub start_v2 : HeadV2 → ℕ → List ℕ
start_v2 h count = digits3 h.address ++ (h.access ∷ h.first ∷ h.second ∷ []) ++ digits2 count

unfoldable pub start_v1 : HeadV1 → ℕ → List ℕ
start_v1 h count = digits3 h.address ++ (h.letter ∷ [])

pub size_is_v2 : (h : HeadV2) (count : ℕ) → length (start_v2 h count) ≡ 8
unfolding start_v2
size_is_v2 h count = refl

pub size_is_v1 : (h : HeadV1) (count : ℕ) → length (start_v1 h count) ≡ 4
unfolding start_v1
size_is_v1 h count = refl

-- what a frame's writer answers, by what stands before the data
pub written_is_v2 : (room : ℕ) (h : HeadV2) (bytes : List ℕ) → written_v2 room h bytes ≡ frame_written room (carries_v2 h bytes) h.address (closed (start_v2 h (length bytes) ++ bytes))
unfolding frame_v2 start_v2
written_is_v2 room h bytes = refl

pub written_is_v1 : (room : ℕ) (h : HeadV1) (bytes : List ℕ) → written_v1 room h bytes ≡ frame_written room (carries_v1 h bytes) h.address (closed (start_v1 h (length bytes) ++ bytes))
unfolding frame_v1 start_v1
written_is_v1 room h bytes = refl
