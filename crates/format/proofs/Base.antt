-- What every group stands on: outcomes taken apart, and marks place by place.
pub mod Judged
pub mod Marks
