-- A track as its spans: cut at its openings and joined again, with marks in the openings alone. The groups behind speak of spans and no longer of marks.
pub mod Shape
pub mod Cutting
pub mod SpanAgrees
pub mod Marks
pub mod StrayMark
