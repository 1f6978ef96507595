-- Document 01, "Text frames": what is read of a frame that was sent.
use Rattle.std.specs.Prelude.{◌≡◌, List, ℕ, Ok}
use Rattle.frames.specs.Frame.{data_from, frame_of}
use Rattle.frame_writer.specs.Written.{frame_v2, frame_v1}
use Rattle.frames.specs.declared.HeadV1.{HeadV1}
use Rattle.frames.specs.declared.HeadV2.{HeadV2}
use Rattle.frames.specs.declared.Frame.TheVariants.{V1, V2}

-- what is read of a V2 frame: its head and its data
pub record ReadV2 (h : HeadV2) (bytes : List ℕ) : Type 0 where
  pub head : frame_of (frame_v2 h bytes) ≡ Ok (V2 h)
  pub rest : data_from 8 (frame_v2 h bytes) ≡ bytes

-- and of a V1 frame
pub record ReadV1 (h : HeadV1) (bytes : List ℕ) : Type 0 where
  pub head : frame_of (frame_v1 h bytes) ≡ Ok (V1 h)
  pub rest : data_from 4 (frame_v1 h bytes) ≡ bytes
