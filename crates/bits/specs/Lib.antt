pub mod Bits
pub mod BitLaws
pub mod Bitwise
pub mod ByteLaws
pub mod Ripple
pub mod RippleLaws
pub mod Spans
pub mod SpanLaws
