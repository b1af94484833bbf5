-- Cells of any track: where openings stand, fields with their check, and what does not depend on the cells further on. Spans are cut by these laws.
pub mod Opening
pub mod Field
pub mod Local
