-- What the gauge answers to a written request is read by the master as the value, or the error, that the gauge holds.
use mathlib.Core.Path.{◌≡◌, refl, ap, ◌∙◌}
use mathlib.Core.Bool.{Bool, true, false, false≢true}
use mathlib.Core.List.{[], ◌∷◌}
use Prim.Native.Nat.{ℕ, ◌/◌, ◌%◌, ◌<◌, ◌≤◌}
use lib.Ieee.{Float, binary32, of_bits, mul}
use lib.Ieee.Bits.{to_bits-lt}
use lib.Ieee.Fits.{mul-fits}
use Rattle.buffer.specs.First.{pick}
use Rattle.opg_frames.specs.Frame.{cmd_of}
use Rattle.opg_frame_writer.specs.Written.{sealed, frame, reply_frame}
use Rattle.opg_units.specs.Units.{torr, pascal, micron, product, bits_in}
use Rattle.opg_commands.specs.Request.{request_pid, request_cmd, reply_cmd, reply_count, outside_of}
use Rattle.opg_commands.specs.declared.Request.{Request}
use Rattle.opg_commands.specs.declared.Request.TheVariants.{ReadPressure, ReadUnit, WriteUnit, DetectionOff, DetectionOn}
use Rattle.std.proofs.Common.{Ok}
use Rattle.opg_frames.specs.Number.{error_byte}
use Rattle.opg_frames.specs.declared.ErrorByte.TheVariants as byte
use Rattle.opg_request_reader.specs.Asked.{error}
use Rattle.opg_gauge.specs.Judged.{is_pressure_read, unavailable, judgement}
use Rattle.opg_gauge.specs.Inner.{judged}
use Rattle.opg_gauge.proofs.Laws.{judged_is}
use Rattle.opg_gauge.specs.declared.Gauge.{Gauge}
use Rattle.opg_answer.specs.Reply.{bits_of, unit_of, reply_data, error_cmd, reply_to, answer_of}
use Rattle.opg_request_writer.specs.Written.{request_bytes_of}
use Rattle.opg_replies.specs.Reply as R
use Rattle.opg_replies.specs.Reply.{is_error, other_reply, reply_value, read_of}
use Rattle.opg_replies.specs.declared.Reply.TheVariants.{Error}
use Rattle.opg_facts.proofs.Finite.{bits_each, sent_finite}
use Rattle.opg_facts.specs.Held.{fits32, pressure_read, unit_read, held_of, expected}
use Rattle.opg_facts.specs.Theorems.{AnswerRead, PressureHeld, UnitHeld}
use Rattle.opg_facts.proofs.ReadBack.{crc_right, parts_open, word_back, read_back}

-- ---- the bits that are sent

-- a product has 32 bits, and so have the bits in every unit
bits_lt : (unit w : ℕ) → w < 4294967296 → bits_in unit w < 4294967296
unfolding product
bits_lt unit w h =
    bits_each (λ (n : ℕ). n < 4294967296) unit w h (sized torr) (sized pascal) (sized micron)
  where
    sized : (factor : Float) → product factor w < 4294967296
    sized factor = to_bits-lt binary32 (mul binary32 (of_bits binary32 w) factor) (mul-fits binary32 (of_bits binary32 w) factor)

-- ---- replies

-- a pressure that the bench took is read as the f32 in the unit asked for, and a unit within its limits as itself: 28 does not arise
pub pressure_held_lem : PressureHeld
unfolding held_of pressure_read pick bits_of
pressure_held_lem g u w e h =
    let b : bits_of g.pressure ≡ w = ap bits_of e in
    rw (b, sent_finite (unit_of g u) w h)

pub unit_held : UnitHeld
unfolding held_of unit_read pick
unit_held g h = rw h

-- an error reply is read as its error
pub error_read : (u e : ℕ) → read_of (ReadPressure u) (reply_frame (error_cmd 1) 0xffff (e ∷ [])) ≡ Ok (Error e)
unfolding parts_open read_of request_cmd request_pid other_reply is_error R.wrong_count R.needed_of reply_count error_cmd
error_read u e = rw (crc_right (0 ∷ 11 ∷ 33 ∷ 0 ∷ 6 ∷ 2 ∷ 255 ∷ 255 ∷ 0 ∷ 0 ∷ e ∷ []))

-- an accepted reply is read as the value that the gauge holds
pub reply_read : (g : Gauge) (r : Request) → bits_of g.pressure < 4294967296 → read_of r (reply_frame (reply_cmd r) (request_pid r) (reply_data g r)) ≡ held_of g r
unfolding parts_open read_of request_cmd request_pid other_reply is_error R.wrong_count R.needed_of reply_count held_of reply_data reply_value pressure_read unit_read
reply_read g (ReadPressure u) h =
    let w = bits_in (unit_of g u) (bits_of g.pressure) in
    rw (
      crc_right (0 ∷ 11 ∷ 33 ∷ 0 ∷ 9 ∷ 2 ∷ 54 ∷ 176 ∷ 0 ∷ 0 ∷ w / 16777216 % 256 ∷ w / 65536 % 256 ∷ w / 256 % 256 ∷ w % 256 ∷ []),
      word_back w (bits_lt (unit_of g u) (bits_of g.pressure) h),
    )
reply_read g ReadUnit h = rw (crc_right (0 ∷ 11 ∷ 33 ∷ 0 ∷ 6 ∷ 2 ∷ 54 ∷ 177 ∷ 0 ∷ 0 ∷ g.settings.unit ∷ []))
reply_read g (WriteUnit u) h = rw (crc_right (0 ∷ 11 ∷ 33 ∷ 0 ∷ 5 ∷ 4 ∷ 54 ∷ 177 ∷ 0 ∷ 0 ∷ []))
reply_read g DetectionOff h = rw (crc_right (0 ∷ 11 ∷ 33 ∷ 0 ∷ 5 ∷ 4 ∷ 85 ∷ 240 ∷ 0 ∷ 0 ∷ []))
reply_read g (DetectionOn n gas) h = rw (crc_right (0 ∷ 11 ∷ 33 ∷ 0 ∷ 5 ∷ 4 ∷ 85 ∷ 240 ∷ 0 ∷ 0 ∷ []))

-- ---- the whole way

-- the CMD byte of a written request
cmd_back : (r : Request) → cmd_of (request_bytes_of r) ≡ request_cmd r
unfolding request_bytes_of cmd_of frame sealed
cmd_back r = refl

-- the error reply to a pressure's read; no other request is refused here
error_back : (g : Gauge) (r : Request) → unavailable g r ≡ true → read_of r (reply_frame (error_cmd (request_cmd r)) 0xffff (0 ∷ [])) ≡ Ok (Error 0)
unfolding unavailable is_pressure_read request_cmd
error_back g (ReadPressure u) e = error_read u 0
error_back g ReadUnit e = absurd (false≢true e)
error_back g (WriteUnit u) e = absurd (false≢true e)
error_back g DetectionOff e = absurd (false≢true e)
error_back g (DetectionOn n gas) e = absurd (false≢true e)

judged_back : (room : ℕ) (g : Gauge) (r : Request) → 32 ≤ room → outside_of r ≡ false → fits32 r ≡ true
    → judgement room g (request_bytes_of r) ≡ pick (unavailable g r) (error byte.Unavailable) (Ok r)
unfolding judged
judged_back room g r enough inside fits = judged_is room g (request_bytes_of r) enough ∙ ap (judged g) (read_back r inside fits)

pub answer_read : AnswerRead
unfolding answer_of expected reply_to error_byte pick
answer_read room g r enough inside fits bits = rw (cmd_back r, judged_back room g r enough inside fits) (go (unavailable g r) refl)
  where
    go : (b : Bool) → unavailable g r ≡ b → read_of r (reply_to g (request_cmd r) (pick b (error byte.Unavailable) (Ok r))).reply ≡ pick b (Ok (Error 0)) (held_of g r)
    go true e = error_back g r e
    go false e = reply_read g r bits
