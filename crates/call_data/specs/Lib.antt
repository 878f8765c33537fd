pub mod CallData
