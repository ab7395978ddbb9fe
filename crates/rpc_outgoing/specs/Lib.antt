-- What each file says:
-- - `Outflows`: the bytes that go out of a vat, and the frames that are kept to send back what was not understood.
-- - `Widths`: what each message has by its types.

pub mod Outflows
pub mod Widths
