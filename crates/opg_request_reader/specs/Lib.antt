-- Document 01, "OPG frames": any bytes read as a request.
pub mod Asked
