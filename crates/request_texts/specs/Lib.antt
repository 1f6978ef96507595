-- What typed requests are sent as: the head and the data of their frames.
pub mod RequestText
