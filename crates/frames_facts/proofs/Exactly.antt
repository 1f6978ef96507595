-- Bytes are read as a frame exactly if they are one: the head and the data can be sent, and the bytes are their frame.
use mathlib.Core.Path.{◌≡◌, refl, ap, ◌∙◌}
use mathlib.Core.Bool.{true, false}
use mathlib.Core.List.{List, [], ◌∷◌, ◌++◌}
use Prim.Native.Nat.{ℕ, ◌≤◌}
use native.Mathlib.Omega.{arith}
use lib.ListN.{length, length-take, length-drop}
use Rattle.std.specs.Prelude.{Ok}
use Rattle.buffer.specs.Byte.{at, every, digits2, digits3}
use Rattle.frames.specs.Checksum.{closed}
use Rattle.frames.specs.Frame.{is_letter, body, data_from, address_of, wrong_length, head_v1, head_v2, frame_of}
use Rattle.frames.specs.declared.Frame.TheVariants.{V1, V2}
use Rattle.frame_writer.specs.Written.{frame_v2, frame_v1}
use Rattle.frames_facts.proofs.Shape.{Framed, Tells, tells, six_to_twelve, access_digit, byte_prints, data_prints, is_closed, address_digits, count_digits, eight, four, head_part, len_part, body_byte}
use Rattle.frame_writer.specs.Sendable.{SendableV2, SendableV1}
use Rattle.frames_facts.proofs.ReadBack.{read_back_v2, read_back_v1}
use Rattle.frames_facts.specs.Theorems.{FrameExactlyV2, FrameExactlyV1}

-- ---- V2

module _ (s : List ℕ) (f : Framed s) (l : is_letter (at s 3) ≡ false) where
  sendable2 : SendableV2 (head_v2 s) (data_from 8 s)
  unfolding head_v2
  sendable2 =
      let a = access_digit s f l in
      record {
        address_in = (address_digits s f (omega arith)).1;
        access_in = a.0;
        first_in = byte_prints s f 4 (omega arith);
        second_in = byte_prints s f 5 (omega arith);
        bytes_in = data_prints s f 8;
        few = simp (length-drop, length-take) (omega arith);
      }

  body_is2 : wrong_length s ≡ false → body s ≡ digits3 (address_of s) ++ (at s 3 ∷ at s 4 ∷ at s 5 ∷ []) ++ digits2 (length (data_from 8 s)) ++ data_from 8 s
  body_is2 w =
      let a = access_digit s f l in
      let n : 8 ≤ length (body s) = simp length-take (omega arith) in
      eight (body s) n
      ∙ rw (
        head_part s (omega arith) ∙ (address_digits s f (omega arith)).0,
        body_byte s 3 (omega arith),
        body_byte s 4 (omega arith),
        body_byte s 5 (omega arith),
        len_part s a.1 ∙ count_digits s a.1 w,
      )

  -- the head alone, whatever LEN says
  pub head_read_v2 : SendableV2 (head_v2 s) []
  unfolding every
  head_read_v2 =
      let ok = sendable2 in
      record { address_in = ok.address_in; access_in = ok.access_in; first_in = ok.first_in; second_in = ok.second_in; bytes_in = refl; few = omega arith }

  frame_is2 : wrong_length s ≡ false → s ≡ frame_v2 (head_v2 s) (data_from 8 s)
  unfolding frame_v2 head_v2
  frame_is2 w =
      let a = access_digit s f l in
      is_closed s f (omega arith) ∙ ap closed (body_is2 w)

pub frame_exactly_v2 : FrameExactlyV2
frame_exactly_v2 s h d = (read, written)
  where
    read : (frame_of s ≡ Ok (V2 h)) × (data_from 8 s ≡ d) → SendableV2 h d × (s ≡ frame_v2 h d)
    read e =
        let t : Tells s (Ok (V2 h)) = rw e.0 at (tells s) in
        rw (t.3, ← e.1) (sendable2 s t.0 t.1, frame_is2 s t.0 t.1 t.2)

    written : SendableV2 h d × (s ≡ frame_v2 h d) → (frame_of s ≡ Ok (V2 h)) × (data_from 8 s ≡ d)
    written e =
        let b = read_back_v2 h d e.0 in
        rw e.1 (b.head, b.rest)

-- ---- V1

module _ (s : List ℕ) (f : Framed s) (l : is_letter (at s 3) ≡ true) where
  sendable1 : SendableV1 (head_v1 s) (data_from 4 s)
  unfolding head_v1
  sendable1 =
      let a = six_to_twelve s f l in
      record { address_in = (address_digits s f (omega arith)).1; letter_in = l; bytes_in = data_prints s f 4; few = simp (length-drop, length-take) (omega arith) }

  -- the head alone
  pub head_read_v1 : SendableV1 (head_v1 s) []
  unfolding every
  head_read_v1 = record { address_in = sendable1.address_in; letter_in = sendable1.letter_in; bytes_in = refl; few = omega arith }

  body_is1 : body s ≡ digits3 (address_of s) ++ (at s 3 ∷ []) ++ data_from 4 s
  body_is1 =
      let a = six_to_twelve s f l in
      let n : 4 ≤ length (body s) = simp length-take (omega arith) in
      four (body s) n ∙ rw (head_part s (omega arith) ∙ (address_digits s f (omega arith)).0, body_byte s 3 (omega arith))

  frame_is1 : s ≡ frame_v1 (head_v1 s) (data_from 4 s)
  unfolding frame_v1 head_v1
  frame_is1 =
      let a = six_to_twelve s f l in
      is_closed s f (omega arith) ∙ ap closed body_is1

pub frame_exactly_v1 : FrameExactlyV1
frame_exactly_v1 s h d = (read, written)
  where
    read : (frame_of s ≡ Ok (V1 h)) × (data_from 4 s ≡ d) → SendableV1 h d × (s ≡ frame_v1 h d)
    read e =
        let t : Tells s (Ok (V1 h)) = rw e.0 at (tells s) in
        rw (t.2, ← e.1) (sendable1 s t.0 t.1, frame_is1 s t.0 t.1)

    written : SendableV1 h d × (s ≡ frame_v1 h d) → (frame_of s ≡ Ok (V1 h)) × (data_from 4 s ≡ d)
    written e =
        let b = read_back_v1 h d e.0 in
        rw e.1 (b.head, b.rest)
