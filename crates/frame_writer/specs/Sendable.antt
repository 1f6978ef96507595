-- What can be sent as a frame. It is exactly what a frame's writer accepts where it has room (`frames_facts: sendable_exactly_v2, -v1`).
use Rattle.std.specs.Prelude.{◌≡◌, true, List, ℕ, ◌≤◌, length}
use Rattle.buffer.specs.Byte.{within, is_digit, every}
use Rattle.frames.specs.Frame.{is_letter}
use Rattle.frames.specs.declared.HeadV1.{HeadV1}
use Rattle.frames.specs.declared.HeadV2.{HeadV2}
use Rattle.frame_writer.specs.Written.{is_address}

-- what can be sent as a V2 frame: what it can carry, and an address that it can hold
pub record SendableV2 (h : HeadV2) (bytes : List ℕ) : Type 0 where
  pub address_in : is_address h.address ≡ true
  pub access_in : is_digit h.access ≡ true
  pub first_in : within 32 126 h.first ≡ true
  pub second_in : within 32 126 h.second ≡ true
  pub bytes_in : every (within 32 126) bytes ≡ true
  pub few : length bytes ≤ 99

-- what can be sent as a V1 frame
pub record SendableV1 (h : HeadV1) (bytes : List ℕ) : Type 0 where
  pub address_in : is_address h.address ≡ true
  pub letter_in : is_letter h.letter ≡ true
  pub bytes_in : every (within 32 126) bytes ≡ true
  pub few : length bytes ≤ 6
