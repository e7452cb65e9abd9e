pub mod Free
pub mod LaidOver
