pub mod Standing
