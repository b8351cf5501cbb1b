-- Kernels, with what they mean, and with their code.
pub mod Meant
